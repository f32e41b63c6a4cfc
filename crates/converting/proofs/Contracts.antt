-- Of whatever the calls' contracts allow, as the source has them: a refused conversion writes nothing; there and back returns the same bytes;
-- export followed by import too.
use Prim.Native.Nat.{ℕ, ◌+◌, ◌*◌, ◌≤◌}
use mathlib.Core.Path.{◌≡◌, sym, ap, ◌∙◌}
use mathlib.Core.Bool.{true, false}
use mathlib.Core.List.{List, ◌++◌}
use contract.Lifetimes.{Lfts}
use denote.MutBor.{MutBor}
use denote.Ref.{Bor}
use lib.ListN.{length, take, drop}
use Rattle.answer.specs.Answers.{accepted, Answer, Taken}
use Rattle.answer.proofs.Injective.{told_injective}
use Rattle.image.specs.Bytes.{at1}
use Rattle.image.proofs.ByteLaws.{Bytes}
use Rattle.converting.specs.Converted.{widen_answer, widened, narrow_answer, narrowed}
use Rattle.converting.proofs.Laws.{refused_same}
use Rattle.converting.proofs.Versions.{wide_and_back, narrow_and_back}
use Rattle.converting.proofs.widen.Reads as widening
use Rattle.converting.proofs.narrow.Reads as narrowing
use Rattle.converting.specs.Desks.{import_answer, imported, export_answer}
use Rattle.converting.proofs.DeskLaws.{import_stays, export_stays}
use Rattle.converting.proofs.ExportImport.{export_import}
use Rattle.converting.proofs.desks.import_desks.Reads as importing
use Rattle.converting.proofs.desks.export_desks.Reads as exporting

module _ (κs : Lfts 2) (s : Bor (List ℕ)) (b z : MutBor (List ℕ)) (r : Answer) where
  -- widen, or narrow, may answer r and leave z where the buffer held b
  abbrev pub Widens : Type 0
  Widens = widening.Post κs (s, (b, tt)) r (s, (z, tt))

  abbrev pub Narrows : Type 0
  Narrows = narrowing.Post κs (s, (b, tt)) r (s, (z, tt))

  widen_is : Widens → r ≡ widen_answer s.now (length b.now)
  widen_is p = told_injective r (widen_answer s.now (length b.now)) p.0

  narrow_is : Narrows → r ≡ narrow_answer s.now (length b.now)
  narrow_is p = told_injective r (narrow_answer s.now (length b.now)) p.0

  pub widen_refused : Widens → accepted r ≡ false → z.now ≡ b.now
  widen_refused p h = p.1 ∙ refused_same 1 2 s.now b.now (ap accepted (sym (widen_is p)) ∙ h)

  pub narrow_refused : Narrows → accepted r ≡ false → z.now ≡ b.now
  narrow_refused p h = p.1 ∙ refused_same 2 1 s.now b.now (ap accepted (sym (narrow_is p)) ∙ h)

-- an image s, converted into a buffer that held b and now holds z; the image t that stands there, converted back into a buffer that held c and now holds w
module _ (κs : Lfts 2) (s : Bor (List ℕ)) (b z : MutBor (List ℕ)) (r : Answer) (λs : Lfts 2) (t : Bor (List ℕ)) (c w : MutBor (List ℕ)) (q : Answer)
    (bytes : Bytes s.now) (taken : accepted r ≡ true) (room : length s.now ≤ length c.now) where
  pub widened_narrowed : Widens κs s b z r → t.now ≡ take (14 + at1 s.now 5 * 13) z.now → Narrows λs t c w q
      → (q ≡ Taken) × (w.now ≡ s.now ++ drop (length s.now) c.now)
  widened_narrowed p e p' =
      let h = ap accepted (sym (widen_is κs s b z r p)) ∙ taken in
      let o = wide_and_back s.now bytes b.now c.now h room in
      let f = e ∙ ap (take (14 + at1 s.now 5 * 13)) p.1 in (
        narrow_is λs t c w q p' ∙ ap (λ (l : List ℕ). narrow_answer l (length c.now)) f ∙ o.0,
        p'.1 ∙ ap (λ (l : List ℕ). narrowed l c.now) f ∙ o.1,
      )

  pub narrowed_widened : Narrows κs s b z r → t.now ≡ take (10 + at1 s.now 5 * 9) z.now → Widens λs t c w q
      → (q ≡ Taken) × (w.now ≡ s.now ++ drop (length s.now) c.now)
  narrowed_widened p e p' =
      let h = ap accepted (sym (narrow_is κs s b z r p)) ∙ taken in
      let o = narrow_and_back s.now bytes b.now c.now h room in
      let f = e ∙ ap (take (10 + at1 s.now 5 * 9)) p.1 in (
        widen_is λs t c w q p' ∙ ap (λ (l : List ℕ). widen_answer l (length c.now)) f ∙ o.0,
        p'.1 ∙ ap (λ (l : List ℕ). widened l c.now) f ∙ o.1,
      )

pub import_refused :
    (κs : Lfts 2) (s : Bor (List ℕ)) (b z : MutBor (List ℕ)) (r : Answer) → importing.Post κs (s, (b, tt)) r (s, (z, tt)) → accepted r ≡ false → z.now ≡ b.now
import_refused κs s b z r p h =
    p.1 ∙ import_stays s.now b.now (ap accepted (sym (told_injective r (import_answer s.now (length b.now)) p.0)) ∙ h)

pub export_refused :
    (κs : Lfts 2) (s : Bor (List ℕ)) (b z : MutBor (List ℕ)) (t : ℕ) (r : Answer) → exporting.Post κs (s, (t, (b, tt))) r (s, (t, (z, tt))) → accepted r ≡ false → z.now ≡ b.now
export_refused κs s b z t r p h =
    p.1 ∙ export_stays s.now t b.now (ap accepted (sym (told_injective r (export_answer s.now t (length b.now)) p.0)) ∙ h)

-- an image s, exported for t threads into a buffer that held b and now holds z; the image u that stands there, imported into a buffer that held c and now holds w
pub exported_imported :
    (κs : Lfts 2) (s : Bor (List ℕ)) (b z : MutBor (List ℕ)) (t : ℕ) (r : Answer) (λs : Lfts 2) (u : Bor (List ℕ)) (c w : MutBor (List ℕ)) (q : Answer) →
    Bytes s.now → accepted r ≡ true → length s.now ≤ length c.now →
    exporting.Post κs (s, (t, (b, tt))) r (s, (t, (z, tt))) → u.now ≡ take (7 + t * 4 + at1 s.now 5 * 9) z.now →
    importing.Post λs (u, (c, tt)) q (u, (w, tt)) →
    (q ≡ Taken) × (w.now ≡ s.now ++ drop (length s.now) c.now)
exported_imported κs s b z t r λs u c w q bytes taken room p e p' =
    let is = told_injective r (export_answer s.now t (length b.now)) p.0 in
    let o = export_import s.now bytes t b.now c.now (ap accepted (sym is) ∙ taken) room in
    let f = e ∙ ap (take (7 + t * 4 + at1 s.now 5 * 9)) p.1 in (
      told_injective q (import_answer u.now (length c.now)) p'.0 ∙ ap (λ (l : List ℕ). import_answer l (length c.now)) f ∙ o.0,
      p'.1 ∙ ap (λ (l : List ℕ). imported l c.now) f ∙ o.1,
    )

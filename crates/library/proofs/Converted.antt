-- Of the conversions, from their contracts as the source has them: two results are equal; a refused call leaves every lent byte as it was; there and
-- back returns the same bytes; export followed by import too.
use Prim.Native.Nat.{ℕ, ◌+◌, ◌*◌, ◌%◌, ◌≤◌}
use mathlib.Core.Path.{◌≡◌, sym, ap, ◌∙◌}
use mathlib.Core.Bool.{true}
use mathlib.Core.List.{List, ◌++◌}
use contract.Lifetimes.{Lfts}
use denote.MutBor.{MutBor}
use denote.Ref.{Bor}
use lib.ListN.{length, take, drop}
use Rattle.answer.specs.Answers.{told, accepted}
use Rattle.image.specs.Bytes.{at1}
use Rattle.image.proofs.ByteLaws.{Bytes}
use Rattle.converting.specs.Converted.{widen_answer, widened, narrow_answer, narrowed}
use Rattle.converting.proofs.Laws.{refused_same}
use Rattle.converting.specs.Desks.{import_answer, imported, export_answer, exported}
use Rattle.converting.proofs.DeskLaws.{import_stays, export_stays}
use Rattle.converting.proofs.ExportImport.{export_import}
use Rattle.converting.proofs.Versions.{wide_and_back, narrow_and_back}
use Rattle.calls.specs.Conversions.{widen_given, narrow_given, import_given, export_given}
use Rattle.calls.specs.Packed.{packed}
use Rattle.library.proofs.Refused.{Refused, not_taken}
use Rattle.library.proofs.Whole.{number_taken}
use Rattle.library.proofs.conversions.uq_widen.Reads as widening
use Rattle.library.proofs.conversions.uq_narrow.Reads as narrowing
use Rattle.library.proofs.conversions.uq_import.Reads as importing
use Rattle.library.proofs.conversions.uq_export.Reads as exporting

pub widen_one :
    (κs : Lfts 2) (s : Bor (List ℕ)) (b z z' : MutBor (List ℕ)) (r r' : ℕ) →
    widening.Post κs (s, (b, tt)) r (s, (z, tt)) → widening.Post κs (s, (b, tt)) r' (s, (z', tt)) → (r ≡ r') × (z.now ≡ z'.now)
widen_one κs s b z z' r r' p q = (p.0 ∙ sym q.0, p.1 ∙ sym q.1)

pub narrow_one :
    (κs : Lfts 2) (s : Bor (List ℕ)) (b z z' : MutBor (List ℕ)) (r r' : ℕ) →
    narrowing.Post κs (s, (b, tt)) r (s, (z, tt)) → narrowing.Post κs (s, (b, tt)) r' (s, (z', tt)) → (r ≡ r') × (z.now ≡ z'.now)
narrow_one κs s b z z' r r' p q = (p.0 ∙ sym q.0, p.1 ∙ sym q.1)

pub widen_refused :
    (κs : Lfts 2) (s : Bor (List ℕ)) (b z : MutBor (List ℕ)) (r : ℕ) →
    widening.Post κs (s, (b, tt)) r (s, (z, tt)) → Refused r → z.now ≡ b.now
widen_refused κs s b z r p n =
    p.1 ∙ refused_same 1 2 s.now b.now (not_taken (widen_answer s.now (length b.now)) 0 r p.0 n)

pub narrow_refused :
    (κs : Lfts 2) (s : Bor (List ℕ)) (b z : MutBor (List ℕ)) (r : ℕ) →
    narrowing.Post κs (s, (b, tt)) r (s, (z, tt)) → Refused r → z.now ≡ b.now
narrow_refused κs s b z r p n =
    p.1 ∙ refused_same 2 1 s.now b.now (not_taken (narrow_answer s.now (length b.now)) 0 r p.0 n)

-- an image s, converted into a buffer that held b and now holds z; the image t that stands there, converted back into a buffer that held c and now holds w
module _ (κs : Lfts 2) (s : Bor (List ℕ)) (b z : MutBor (List ℕ)) (r : ℕ) (λs : Lfts 2) (t : Bor (List ℕ)) (c w : MutBor (List ℕ)) (q : ℕ)
    (bytes : Bytes s.now) (taken : r % 256 ≡ 0) (room : length s.now ≤ length c.now) where
  pub widened_narrowed : widening.Post κs (s, (b, tt)) r (s, (z, tt)) → t.now ≡ take (14 + at1 s.now 5 * 13) z.now → narrowing.Post λs (t, (c, tt)) q (t, (w, tt))
      → (q ≡ 0) × (w.now ≡ s.now ++ drop (length s.now) c.now)
  unfolding packed
  widened_narrowed p e p' =
      let h = number_taken (widen_answer s.now (length b.now)) 0 (ap (λ x. x % 256) (sym p.0) ∙ taken) in
      let o = wide_and_back s.now bytes b.now c.now h room in
      let f = e ∙ ap (take (14 + at1 s.now 5 * 13)) p.1 in (
        p'.0 ∙ ap (λ (l : List ℕ). narrow_given l (length c.now)) f ∙ ap (λ a. packed (told a) 0) o.0,
        p'.1 ∙ ap (λ (l : List ℕ). narrowed l c.now) f ∙ o.1,
      )

  pub narrowed_widened : narrowing.Post κs (s, (b, tt)) r (s, (z, tt)) → t.now ≡ take (10 + at1 s.now 5 * 9) z.now → widening.Post λs (t, (c, tt)) q (t, (w, tt))
      → (q ≡ 0) × (w.now ≡ s.now ++ drop (length s.now) c.now)
  unfolding packed
  narrowed_widened p e p' =
      let h = number_taken (narrow_answer s.now (length b.now)) 0 (ap (λ x. x % 256) (sym p.0) ∙ taken) in
      let o = narrow_and_back s.now bytes b.now c.now h room in
      let f = e ∙ ap (take (10 + at1 s.now 5 * 9)) p.1 in (
        p'.0 ∙ ap (λ (l : List ℕ). widen_given l (length c.now)) f ∙ ap (λ a. packed (told a) 0) o.0,
        p'.1 ∙ ap (λ (l : List ℕ). widened l c.now) f ∙ o.1,
      )

-- ---- from and to "UQP"

pub import_one :
    (κs : Lfts 2) (s : Bor (List ℕ)) (b z z' : MutBor (List ℕ)) (r r' : ℕ) →
    importing.Post κs (s, (b, tt)) r (s, (z, tt)) → importing.Post κs (s, (b, tt)) r' (s, (z', tt)) → (r ≡ r') × (z.now ≡ z'.now)
import_one κs s b z z' r r' p q = (p.0 ∙ sym q.0, p.1 ∙ sym q.1)

pub export_one :
    (κs : Lfts 2) (s : Bor (List ℕ)) (t : ℕ) (b z z' : MutBor (List ℕ)) (r r' : ℕ) →
    exporting.Post κs (s, (t, (b, tt))) r (s, (t, (z, tt))) → exporting.Post κs (s, (t, (b, tt))) r' (s, (t, (z', tt))) → (r ≡ r') × (z.now ≡ z'.now)
export_one κs s t b z z' r r' p q = (p.0 ∙ sym q.0, p.1 ∙ sym q.1)

pub import_refused :
    (κs : Lfts 2) (s : Bor (List ℕ)) (b z : MutBor (List ℕ)) (r : ℕ) →
    importing.Post κs (s, (b, tt)) r (s, (z, tt)) → Refused r → z.now ≡ b.now
import_refused κs s b z r p n =
    p.1 ∙ import_stays s.now b.now (not_taken (import_answer s.now (length b.now)) 0 r p.0 n)

pub export_refused :
    (κs : Lfts 2) (s : Bor (List ℕ)) (t : ℕ) (b z : MutBor (List ℕ)) (r : ℕ) →
    exporting.Post κs (s, (t, (b, tt))) r (s, (t, (z, tt))) → Refused r → z.now ≡ b.now
export_refused κs s t b z r p n =
    p.1 ∙ export_stays s.now t b.now (not_taken (export_answer s.now t (length b.now)) 0 r p.0 n)

-- an image s, exported for t threads into a buffer that held b and now holds z; the image u that stands there, imported into a buffer that held c and now holds w
pub exported_imported :
    (κs : Lfts 2) (s : Bor (List ℕ)) (b z : MutBor (List ℕ)) (t r : ℕ) (λs : Lfts 2) (u : Bor (List ℕ)) (c w : MutBor (List ℕ)) (q : ℕ) →
    Bytes s.now → r % 256 ≡ 0 → length s.now ≤ length c.now →
    exporting.Post κs (s, (t, (b, tt))) r (s, (t, (z, tt))) → u.now ≡ take (7 + t * 4 + at1 s.now 5 * 9) z.now →
    importing.Post λs (u, (c, tt)) q (u, (w, tt)) →
    (q ≡ 0) × (w.now ≡ s.now ++ drop (length s.now) c.now)
unfolding packed
exported_imported κs s b z t r λs u c w q bytes taken room p e p' =
    let h = number_taken (export_answer s.now t (length b.now)) 0 (ap (λ x. x % 256) (sym p.0) ∙ taken) in
    let o = export_import s.now bytes t b.now c.now h room in
    let f = e ∙ ap (take (7 + t * 4 + at1 s.now 5 * 9)) p.1 in (
      p'.0 ∙ ap (λ (l : List ℕ). import_given l (length c.now)) f ∙ ap (λ a. packed (told a) 0) o.0,
      p'.1 ∙ ap (λ (l : List ℕ). imported l c.now) f ∙ o.1,
    )

-- The answers of the calls that write lines, and what the lent buffer holds.
use Prim.Native.Nat.{ℕ, suc, ◌-◌, ◌≤◌, ◌<◌}
use mathlib.Core.Path.{◌≡◌, refl, sym, ap, ap₂, ◌∙◌}
use mathlib.Core.Bool.{true, false}
use mathlib.Core.List.{List, []}
use native.Mathlib.Omega.{arith}
use lib.ListN.{length}
use lib.Dec.{ltb}
use borrow.Author.Tests.{lt-ltb, le-ltb}
use Rattle.lists.specs.Tab.{over}
use Rattle.lists.proofs.BoolLaws.{yes_of, no_of}
use Rattle.std.specs.Prelude.{Result, Ok, Err}
use Rattle.answer.specs.declared.Refusal.{Refusal}
use Rattle.answer.specs.declared.Refusal.TheVariants as why
use Rattle.answer.specs.Answers.{given, check, accepted, Answer, Taken, NoEnding, Room}
use Rattle.answer.proofs.Results.{came_back}
use Rattle.page.specs.Refusals.{page_answer, ending_count}
use Rattle.page.specs.Filled.{lines_on, fitting, page_line, lines_left, lines_answer, lines_taken, lines_bytes, lines_written}
use Rattle.printing.specs.Lines.{refused_text, if_fits}
use Rattle.printing.proofs.Written.{Put}
use Rattle.printing.proofs.Fittings as fits
use Rattle.filling.specs.Lines.{lines_said, refusal_answer, refusal_bytes, refusal_written}
use Rattle.filling.specs.declared.calls.Lines.{Lines}
use Rattle.filling.proofs.Lined.{Lined}

-- ---- lines of a page

pub lines_refused : (s : List ℕ) (k room : ℕ) → accepted (page_answer s) ≡ false → page_answer s ≡ lines_answer s k room
unfolding lines_answer
lines_refused s k room h = sym (no_of _ (page_answer s) (accepted (page_answer s)) h)

module _ (s : List ℕ) (a : accepted (page_answer s) ≡ true) (k room : ℕ) where
  tests : lines_answer s k room ≡ check (ltb (ending_count s) k) NoEnding (check (ltb room (length (page_line s k))) Room Taken)
  unfolding lines_answer
  tests = yes_of _ (page_answer s) (accepted (page_answer s)) a

  pub lines_none : ending_count s < k → NoEnding ≡ lines_answer s k room
  lines_none h = sym (tests ∙ rw (lt-ltb (ending_count s) k h))

  pub lines_room : k ≤ ending_count s → room < length (page_line s k) → Room ≡ lines_answer s k room
  lines_room h l = sym (tests ∙ rw (le-ltb (ending_count s) k h, lt-ltb room (length (page_line s k)) l))

  pub lines_taken_lem : k ≤ ending_count s → length (page_line s k) ≤ room → Taken ≡ lines_answer s k room
  lines_taken_lem h l = sym (tests ∙ rw (le-ltb (ending_count s) k h, le-ltb room (length (page_line s k)) l))

pub taken_none : (s : List ℕ) (k room : ℕ) → accepted (lines_answer s k room) ≡ false → lines_taken s k room ≡ 0
unfolding lines_taken
taken_none s k room h = no_of _ 0 (accepted (lines_answer s k room)) h

pub taken_some : (s : List ℕ) (k room : ℕ) → accepted (lines_answer s k room) ≡ true → lines_taken s k room ≡ fitting (page_line s) k (lines_left s k) room
unfolding lines_taken
taken_some s k room h = yes_of (fitting (page_line s) k (lines_left s k) room) 0 (accepted (lines_answer s k room)) h

pub bytes_none : (s : List ℕ) (k room : ℕ) → accepted (lines_answer s k room) ≡ false → lines_bytes s k room ≡ []
unfolding lines_bytes
bytes_none s k room h = ap (lines_on (page_line s) k) (taken_none s k room h) ∙ fits.on_none (page_line s) k

-- the call's result, and what the lent buffer holds
abbrev pub Said : List ℕ → ℕ → List ℕ → Result Lines Refusal → List ℕ → Type 0
Said s k b r m = (r ≡ given (lines_answer s k (length b)) (lines_said s k (length b))) × (m ≡ lines_written s k b)

-- on a refusal, and where lines were written
pub said_none_lem : (s : List ℕ) (k : ℕ) (b : List ℕ) {r : Result Lines Refusal} (e : Refusal) (m : List ℕ) → r ≡ Err e → Err e ≡ lines_answer s k (length b) → m ≡ b → Said s k b r m
unfolding lines_written over
said_none_lem s k b e m is q g =
    let y = bytes_none s k (length b) (came_back refl (sym q)) in
    (is ∙ ap (λ (a : Answer). given a (lines_said s k (length b))) q, g ∙ ap (over b 0) (sym y))

pub said_some : (s : List ℕ) (k : ℕ) (b m : List ℕ) (n p : ℕ) → Taken ≡ lines_answer s k (length b)
    → Lined (page_line s) b 0 k (suc (ending_count s)) (length b) m n p → Said s k b (Ok (record { lines = n - k; bytes = p })) m
unfolding lines_written lines_bytes lines_left
said_some s k b m n p e x =
    let t : n - k ≡ lines_taken s k (length b) = omega (arith, x.0, taken_some s k (length b) (ap accepted (sym e))) in
    let l = ap (lines_on (page_line s) k) t in
    let c : p ≡ length (lines_on (page_line s) k (lines_taken s k (length b))) = omega (arith, x.1.0, ap length l) in (
      ap Ok (ap₂ (λ (i j : ℕ). record { lines = i; bytes = j }) t c) ∙ ap (λ (a : Answer). given a (lines_said s k (length b))) e,
      x.1.1 ∙ ap (over b 0) l,
    )

-- ---- the line of a refusal

module _ (n p : ℕ) (b : List ℕ) {m : List ℕ} {q : ℕ} (x : Put b 0 (if_fits (length b - 0) (refused_text n p)) m q) where
  abbrev Line : Result ℕ Refusal → Type 0
  Line r = (r ≡ given (refusal_answer n p (length b)) (length (refusal_bytes n p (length b)))) × (m ≡ refusal_written n p b)

  same : if_fits (length b - 0) (refused_text n p) ≡ refusal_bytes n p (length b)
  unfolding refusal_bytes
  same = let e : length b - 0 ≡ length b = omega arith in ap (λ r. if_fits r (refused_text n p)) e

  written : m ≡ refusal_written n p b
  unfolding refusal_written
  written = x.1 ∙ ap (over b 0) same

  pub refusal_room : 0 < length (refused_text n p) → q ≡ 0 → Line (Err why.Room)
  unfolding refusal_answer
  refusal_room h e =
      let l = fits.put_left b 0 (length b - 0) (refused_text n p) x e h in
      (rw (lt-ltb (length b) (length (refused_text n p)) (omega (arith, l.0))), written)

  pub refusal_taken : (q ≡ 0 → ⊥) → Line (Ok q)
  unfolding refusal_answer
  refusal_taken e =
      let l = fits.put_taken b 0 (length b - 0) (refused_text n p) x e in
      let c : q ≡ length (refusal_bytes n p (length b)) = omega (arith, x.0, ap length same) in
      (rw (le-ltb (length b) (length (refused_text n p)) (omega (arith, l.0))) (ap Ok c), written)

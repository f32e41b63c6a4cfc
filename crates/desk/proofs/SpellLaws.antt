-- What the call gives, by the tests that a schedule, an entry's number and a buffer pass.
use Prim.Native.Nat.{ℕ, ◌-◌, ◌≤◌, ◌<◌}
use mathlib.Core.Path.{◌≡◌, refl, sym, ap, ◌∙◌}
use mathlib.Core.Bool.{true, false}
use mathlib.Core.List.{List, []}
use native.Mathlib.Omega.{arith}
use native.Mathlib.Decide.{dec_lt}
use borrow.Author.Tests.{lt-ltb, le-ltb}
use lib.ListN.{length}
use Rattle.lists.specs.Tab.{over}
use Rattle.std.specs.Prelude.{Result, Ok, Err}
use Rattle.answer.specs.declared.Refusal.{Refusal}
use Rattle.answer.specs.Answers.{accepted, given, Answer, Taken, NoEnding, Room}
use Rattle.answer.proofs.Results.{came_back}
use Rattle.spelling.specs.declared.Spelled.{Spelled}
use Rattle.schedule.specs.Layout.{schedule_answer}
use Rattle.page.specs.Filled.{lines_on, fitting}
use Rattle.printing.proofs.Fittings as fits
use Rattle.spelling.specs.Writing.{entry_of, entries_in, spell_answer, spell_taken, spell_bytes, spell_written}

module _ (s : List ℕ) (k : ℕ) (b : List ℕ) where
  -- ---- the answer

  pub refused : accepted (schedule_answer s) ≡ false → spell_answer s k (length b) ≡ schedule_answer s
  unfolding spell_answer
  refused h = rw (h, spell_answer) refl

  module _ (h : accepted (schedule_answer s) ≡ true) where
    pub beyond : entries_in s ≤ k → spell_answer s k (length b) ≡ NoEnding
    unfolding spell_answer
    beyond p = rw (h, spell_answer) (rw (le-ltb k (entries_in s) p) refl)

    pub no_room : k < entries_in s → length b < length (entry_of s k) → spell_answer s k (length b) ≡ Room
    unfolding spell_answer
    no_room p q = rw (h, spell_answer) (rw (lt-ltb k (entries_in s) p, lt-ltb (length b) (length (entry_of s k)) q) refl)

    pub some : k < entries_in s → length (entry_of s k) ≤ length b → spell_answer s k (length b) ≡ Taken
    unfolding spell_answer
    some p q = rw (h, spell_answer) (rw (lt-ltb k (entries_in s) p, le-ltb (length b) (length (entry_of s k)) q) refl)

  -- ---- what is written

  taken_none : accepted (spell_answer s k (length b)) ≡ false → spell_taken s k (length b) ≡ 0
  unfolding spell_taken
  taken_none h = rw (h, spell_taken) refl

  pub taken_some : accepted (spell_answer s k (length b)) ≡ true → spell_taken s k (length b) ≡ fitting (entry_of s) k (entries_in s - k) (length b)
  unfolding spell_taken
  taken_some h = rw (h, spell_taken) refl

  bytes_of : (n : ℕ) → n ≡ spell_taken s k (length b) → lines_on (entry_of s) k n ≡ spell_bytes s k (length b)
  unfolding spell_bytes
  bytes_of n e = ap (lines_on (entry_of s) k) e

  written_of : (l : List ℕ) → l ≡ spell_bytes s k (length b) → over b 0 l ≡ spell_written s k b
  unfolding spell_written
  written_of l e = ap (over b 0) e

  nothing : b ≡ over b 0 []
  unfolding over
  nothing = refl

  -- a refusal writes nothing
  pub unwritten : accepted (spell_answer s k (length b)) ≡ false → spell_written s k b ≡ b
  unwritten h =
      let l = sym (fits.on_none (entry_of s) k) ∙ bytes_of 0 (sym (taken_none h)) in
      sym (written_of [] l) ∙ sym nothing

  abbrev pub all_of : Spelled
  all_of = record { entries = spell_taken s k (length b); bytes = length (spell_bytes s k (length b)) }

  abbrev pub Gives : Result Spelled Refusal → List ℕ → Type 0
  Gives r m = (r ≡ given (spell_answer s k (length b)) all_of) × (m ≡ spell_written s k b)

  pub gives_none : (e : Refusal) (m : List ℕ) → spell_answer s k (length b) ≡ Err e → m ≡ b → Gives (Err e) m
  gives_none e m h g = (ap (λ (a : Answer). given a all_of) (sym h), g ∙ sym (unwritten (came_back refl h)))

  pub gives_some : (n c : ℕ) (m : List ℕ) → spell_answer s k (length b) ≡ Taken → n ≡ fitting (entry_of s) k (entries_in s - k) (length b)
      → c ≡ length (lines_on (entry_of s) k n) → m ≡ over b 0 (lines_on (entry_of s) k n) → Gives (Ok (record { entries = n; bytes = c })) m
  gives_some n c m e p q r =
      let t = p ∙ sym (taken_some (ap accepted e)) in
      let l = bytes_of n t in
      let f = q ∙ ap length l in
      let both : ◌≡◌ {A = Spelled} (record { entries = n; bytes = c }) all_of = (λ i. record { entries = t i; bytes = f i }) in
      (ap Ok both ∙ ap (λ (a : Answer). given a all_of) (sym e), r ∙ written_of (lines_on (entry_of s) k n) l)

  -- ---- whether entry k fits

  pub stays : k < entries_in s → fitting (entry_of s) k (entries_in s - k) (length b) ≡ 0 → length b < length (entry_of s k)
  stays h e = by (dec_lt (length b) (length (entry_of s k)))
    where
      by : Dec (length b < length (entry_of s k)) → length b < length (entry_of s k)
      by (yes l) = l
      by (no l) = absurd (omega (arith, e, fits.fit_some (entry_of s) (entries_in s - k) k (length b) (omega arith) (omega arith)))

  pub goes : (fitting (entry_of s) k (entries_in s - k) (length b) ≡ 0 → ⊥) → length (entry_of s k) ≤ length b
  goes e = by (dec_lt (length b) (length (entry_of s k)))
    where
      by : Dec (length b < length (entry_of s k)) → length (entry_of s k) ≤ length b
      by (yes l) = absurd (e (fits.fit_none (entry_of s) (entries_in s - k) k (length b) l))
      by (no l) = omega arith

  pub none_of : (n : ℕ) (m : List ℕ) → n ≡ 0 → m ≡ over b 0 (lines_on (entry_of s) k n) → m ≡ b
  none_of n m e f = f ∙ ap (λ z. over b 0 (lines_on (entry_of s) k z)) e ∙ ap (over b 0) (fits.on_none (entry_of s) k) ∙ sym nothing

-- Two results that a public call's contract allows, as the source has it, are equal: the answer, what is handed out, and every byte of the lent
-- buffer. A refused call leaves the buffer as it was.
use Prim.Native.Nat.{ℕ}
use mathlib.Core.Path.{◌≡◌, refl, sym, ap, ◌∙◌}
use mathlib.Core.Bool.{true, false}
use native.Mathlib.Omega.{arith}
use mathlib.Core.List.{List}
use contract.Lifetimes.{Lfts}
use denote.Ref.{Bor}
use denote.MutBor.{MutBor}
use lib.ListN.{length}
use Rattle.lists.proofs.BoolLaws.{no_way}
use Rattle.answer.specs.declared.Refusal.{Refusal}
use Rattle.answer.specs.Answers.{Answer, accepted, given}
use Rattle.answer.proofs.Results.{came_back}
use Rattle.spelling.specs.declared.Spelled.{Spelled}
use Rattle.spelling.specs.Writing.{spell_answer}
use Rattle.desk.proofs.spell_lines.Reads as spell
use Rattle.desk.proofs.SpellLaws as spells
use Rattle.std.specs.Prelude.{Result, Ok, Err, is_ok}
use Rattle.spelling.specs.declared.Misread.{Misread}
use Rattle.spelling.specs.declared.Misread.TheVariants as why
use Rattle.spelling.specs.Reading.{Said, Tells, tells_misread, tells, is_taken, read_answer, read_bytes, spelt}
use Rattle.desk.proofs.read_words.Reads as read
use Rattle.desk.proofs.ReadLaws as reads

refused_of : {A : Type 0} (a : Answer) (v : A) → is_ok (given a v) ≡ false → accepted a ≡ false
refused_of (Ok r) v h = no_way h
refused_of (Err e) v h = came_back refl refl

pub spell_one : (κs : Lfts 2) (s : Bor (List ℕ)) (k : ℕ) (b z z' : MutBor (List ℕ)) (r r' : Result Spelled Refusal)
    → spell.Post κs (s, (k, (b, tt))) r (s, (k, (z, tt))) → spell.Post κs (s, (k, (b, tt))) r' (s, (k, (z', tt))) → (r ≡ r') × (z.now ≡ z'.now)
spell_one κs s k b z z' r r' p q = (p.0 ∙ sym q.0, p.1 ∙ sym q.1)

pub spell_refused : (κs : Lfts 2) (s : Bor (List ℕ)) (k : ℕ) (b z : MutBor (List ℕ)) (r : Result Spelled Refusal)
    → spell.Post κs (s, (k, (b, tt))) r (s, (k, (z, tt))) → is_ok r ≡ false → z.now ≡ b.now
spell_refused κs s k b z r p h =
    p.1 ∙ spells.unwritten s.now k b.now (refused_of (spell_answer s.now k (length b.now)) (spells.all_of s.now k b.now) (ap is_ok (sym p.0) ∙ h))

taken_refused : (x : Misread) → 0 ≡ (tells_misread x).number → ⊥
taken_refused (why.Strange i) e = omega (arith, e)
taken_refused (why.Large i) e = omega (arith, e)
taken_refused (why.Many i) e = omega (arith, e)
taken_refused why.Room e = omega (arith, e)

same_misread : (a b : Misread) → tells_misread a ≡ tells_misread b → a ≡ b
same_misread (why.Strange i) (why.Strange j) e = ap why.Strange (ap (λ (z : Tells). z.line) e)
same_misread (why.Strange i) (why.Large j) e = let n = ap (λ (z : Tells). z.number) e in absurd (omega (arith, n))
same_misread (why.Strange i) (why.Many j) e = let n = ap (λ (z : Tells). z.number) e in absurd (omega (arith, n))
same_misread (why.Strange i) why.Room e = let n = ap (λ (z : Tells). z.number) e in absurd (omega (arith, n))
same_misread (why.Large i) (why.Strange j) e = let n = ap (λ (z : Tells). z.number) e in absurd (omega (arith, n))
same_misread (why.Large i) (why.Large j) e = ap why.Large (ap (λ (z : Tells). z.line) e)
same_misread (why.Large i) (why.Many j) e = let n = ap (λ (z : Tells). z.number) e in absurd (omega (arith, n))
same_misread (why.Large i) why.Room e = let n = ap (λ (z : Tells). z.number) e in absurd (omega (arith, n))
same_misread (why.Many i) (why.Strange j) e = let n = ap (λ (z : Tells). z.number) e in absurd (omega (arith, n))
same_misread (why.Many i) (why.Large j) e = let n = ap (λ (z : Tells). z.number) e in absurd (omega (arith, n))
same_misread (why.Many i) (why.Many j) e = ap why.Many (ap (λ (z : Tells). z.line) e)
same_misread (why.Many i) why.Room e = let n = ap (λ (z : Tells). z.number) e in absurd (omega (arith, n))
same_misread why.Room (why.Strange j) e = let n = ap (λ (z : Tells). z.number) e in absurd (omega (arith, n))
same_misread why.Room (why.Large j) e = let n = ap (λ (z : Tells). z.number) e in absurd (omega (arith, n))
same_misread why.Room (why.Many j) e = let n = ap (λ (z : Tells). z.number) e in absurd (omega (arith, n))
same_misread why.Room why.Room e = refl

-- an answer's number and line say which it is
pub says_injective : (a b : Said) → tells a ≡ tells b → a ≡ b
says_injective (Ok u) (Ok v) e = refl
says_injective (Ok u) (Err y) e = absurd (taken_refused y (ap (λ (z : Tells). z.number) e))
says_injective (Err x) (Ok v) e = absurd (taken_refused x (sym (ap (λ (z : Tells). z.number) e)))
says_injective (Err x) (Err y) e = ap Err (same_misread x y e)

pub read_one : (κs : Lfts 2) (t : Bor (List ℕ)) (b z z' : MutBor (List ℕ)) (r r' : Result ℕ Misread)
    → read.Post κs (t, (b, tt)) r (t, (z, tt)) → read.Post κs (t, (b, tt)) r' (t, (z', tt)) → (r ≡ r') × (z.now ≡ z'.now)
read_one κs t b z z' r r' p q = (p.0 ∙ sym q.0, p.1 ∙ sym q.1)

untaken : (a : Said) (n : ℕ) → is_ok (spelt a n) ≡ false → is_taken a ≡ false
untaken (Ok u) n h = absurd (let z : true ≡ false = h in no_way z)
untaken (Err e) n h = reads.refused e

pub read_refused : (κs : Lfts 2) (t : Bor (List ℕ)) (b z : MutBor (List ℕ)) (r : Result ℕ Misread)
    → read.Post κs (t, (b, tt)) r (t, (z, tt)) → is_ok r ≡ false → z.now ≡ b.now
read_refused κs t b z r p h =
    p.1 ∙ reads.written_none t.now b.now (untaken (read_answer t.now (length b.now)) (read_bytes t.now (length b.now)) (ap is_ok (sym p.0) ∙ h))

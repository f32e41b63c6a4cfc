-- The refusals of a shape (2, 3, 4) in front of what follows.
use Prim.Native.Nat.{ℕ, ◌≤◌}
use mathlib.Core.Path.{◌≡◌, refl, sym}
use mathlib.Core.Bool.{Bool, true, false, not}
use borrow.Author.Tests.{leb-true, eqb-true, eq-eqb}
use lib.Dec.{leb, eqb}
use Rattle.lists.specs.Find.{pick}
use Rattle.lists.proofs.BoolLaws.{no_way, both_true}
use Rattle.answer.specs.Answers.{check, accepted, Answer, Taken, Mark, Nodes, Threads}
use Rattle.image.specs.Form.{known, per_desk, head_lines}
use Rattle.image.specs.Refusals.{nodes_fit, threads_fit, own_fit, agree, shape_answer}
use Rattle.image.specs.declared.Shape.{Shape}
use Rattle.image.proofs.HeadLaws.{own_few}

-- what an accepted shape is
pub record Shaped (t : ℕ) (z : Shape) : Type 0 where
  pub form : known z.form ≡ true
  pub nodes : nodes_fit z.n ≡ true
  pub own : own_fit z ≡ true
  pub agrees : agree t z ≡ true

abbrev tests : Bool → Bool → Bool → Bool → Answer → Answer
tests k n o a rest = check (not k) Mark (check (not n) Nodes (check (not o) Threads (check (not a) Threads rest)))

tests_all : (k n o a : Bool) (rest : Answer) → accepted (tests k n o a rest) ≡ true → (k ≡ true) × (n ≡ true) × (o ≡ true) × (a ≡ true) × (accepted rest ≡ true)
tests_all false n o a rest h = no_way (sym h)
tests_all true false o a rest h = no_way (sym h)
tests_all true true false a rest h = no_way (sym h)
tests_all true true true false rest h = no_way (sym h)
tests_all true true true true rest h = (refl, refl, refl, refl, h)

tests_else : (k n o a : Bool) (rest : Answer) → accepted (tests k n o a Taken) ≡ false → tests k n o a rest ≡ tests k n o a Taken
tests_else false n o a rest h = refl
tests_else true false o a rest h = refl
tests_else true true false a rest h = refl
tests_else true true true false rest h = refl
tests_else true true true true rest h = no_way h

pub shape_is : (t : ℕ) (z : Shape) (rest : Answer) → accepted (shape_answer t z rest) ≡ true → Shaped t z × (accepted rest ≡ true)
shape_is t z rest h =
    let r = tests_all (known z.form) (nodes_fit z.n) (own_fit z) (agree t z) rest h in
    (record { form = r.0; nodes = r.1; own = r.2; agrees = r.3 }, r.4)

pub shape_then : (t : ℕ) (z : Shape) (rest : Answer) → Shaped t z → shape_answer t z rest ≡ rest
shape_then t z rest f = rw (f.form, f.nodes, f.own, f.agrees)

pub shape_else : (t : ℕ) (z : Shape) (rest : Answer) → accepted (shape_answer t z Taken) ≡ false → shape_answer t z rest ≡ shape_answer t z Taken
shape_else t z rest h = tests_else (known z.form) (nodes_fit z.n) (own_fit z) (agree t z) rest h

-- ---- what follows of the numbers

pub nodes_range : (n : ℕ) → nodes_fit n ≡ true → (2 ≤ n) × (n ≤ 64)
nodes_range n e = let b = both_true (leb 2 n) (leb n 64) e in (leb-true 2 n b.0, leb-true n 64 b.1)

pub threads_range : (t : ℕ) → threads_fit t ≡ true → (1 ≤ t) × (t ≤ 8)
threads_range t e = let b = both_true (leb 1 t) (leb t 8) e in (leb-true 1 t b.0, leb-true t 8 b.1)

pub shaped_lines : (t : ℕ) (z : Shape) → Shaped t z → (z.n ≤ 64) × (head_lines z ≤ 8)
shaped_lines t z f = ((nodes_range z.n f.nodes).1, own_few z f.own)

-- where each desk has a line, T is the number asked for
pub agree_is : (t : ℕ) (z : Shape) → agree t z ≡ true → per_desk z.form ≡ true → z.t ≡ t
agree_is t z a d = eqb-true z.t t (rw d at a)

-- an image alone agrees with itself
pub agree_own : (z : Shape) → agree z.t z ≡ true
agree_own z = by (per_desk z.form)
  where
    by : (b : Bool) → pick b (eqb z.t z.t) true ≡ true
    by true = eq-eqb z.t z.t refl
    by false = refl

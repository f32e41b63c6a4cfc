-- #104: whether a thread is over a line, by the line's number.
use Prim.Native.Nat.{ℕ, ◌-◌, ◌<◌, ◌≤◌}
use mathlib.Core.Path.{◌≡◌, sym, ap, ◌∙◌}
use mathlib.Core.Bool.{Bool, false}
use mathlib.Core.List.{List}
use native.Mathlib.Omega.{arith}
use native.Mathlib.Decide.{dec_lt}
use lib.ListN.{length, get_or, get_or-eq_default}
use lib.Dec.{ltb}
use borrow.Author.Tests.{lt-ltb, le-ltb}
use Rattle.lists.specs.Find.{pick}
use Rattle.lists.specs.Word.{has}
use Rattle.lists.proofs.WordLaws.{has_zero}
use Rattle.image.specs.declared.Shape.{Shape}
use Rattle.image.specs.Form.{head_lines}
use Rattle.machine.specs.Record.{over_head, over_node}
use Rattle.machine.specs.Line.{shape_of, line_at, over_at}
use Rattle.machine.specs.declared.Machine.{Machine}
use Rattle.machine.proofs.LineLaws.{line_head, line_behind}
use Rattle.runs.specs.Rows.{over_in}

-- a head line, a node, none
module _ (heads nodes : List ℕ) (z : Shape) (l k lines : ℕ) (e : lines ≡ head_lines z) where
  pub over_head_lem : (b : Bool) → l < lines → b ≡ has (get_or heads l 0) k → b ≡ over_in heads nodes z l k
  unfolding over_in
  over_head_lem b h q = q ∙ sym (rw (lt-ltb l (head_lines z) (omega (arith, e))))

  pub over_node_lem : (b : Bool) → lines ≤ l → b ≡ has (get_or nodes (l - lines) 0) k → b ≡ over_in heads nodes z l k
  unfolding over_in
  over_node_lem b h q = q ∙ sym (rw (le-ltb l (head_lines z) (omega (arith, e)), e))

  pub over_none : lines ≤ l → length nodes ≤ l - lines → false ≡ over_in heads nodes z l k
  unfolding over_in
  over_none h q =
      sym (has_zero k) ∙ sym (ap (λ (x : ℕ). has x k) (get_or-eq_default nodes 0 {n = l - lines} q)) ∙ sym (rw (le-ltb l (head_lines z) (omega (arith, e)), e))

-- the sets of threads say whether a fence finds something later
pub over_is : (m : Machine) (z : Shape) → z ≡ shape_of m → (l k : ℕ) → over_in m.over_heads m.over z l k ≡ has (over_at m (line_at (shape_of m) l)) k
unfolding over_in
over_is m z e l k = ap (λ (x : Shape). has (pick (ltb l (head_lines x)) (over_head m l) (over_node m (l - head_lines x))) k) e ∙ by (dec_lt l (head_lines (shape_of m)))
  where
    by : Dec (l < head_lines (shape_of m)) → has (pick (ltb l (head_lines (shape_of m))) (over_head m l) (over_node m (l - head_lines (shape_of m)))) k ≡ has (over_at m (line_at (shape_of m) l)) k
    by (yes p) = rw (lt-ltb l (head_lines (shape_of m)) p, line_head (shape_of m) l p)
    by (no p) = rw (le-ltb l (head_lines (shape_of m)) (omega arith), line_behind (shape_of m) l (omega arith))

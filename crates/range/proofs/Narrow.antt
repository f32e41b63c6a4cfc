-- The tests of indices against the width of the form, and of what is known of flushes, as the code takes them.
use Prim.Native.Nat.{ℕ, ◌^◌, ◌≤◌}
use mathlib.Core.Path.{◌≡◌, refl}
use mathlib.Core.Bool.{not}
use mathlib.Core.List.{List}
use Rattle.std.specs.List.{list_all}
use lib.ListN.{take, length}
use lib.Dec.{ltb}
use Rattle.lists.specs.Find.{both, any}
use Rattle.lists.proofs.IterLaws.{all_first}
use Rattle.image.specs.Form.{known, top_of, head_lines}
use Rattle.machine.specs.Line.{shape_of}
use Rattle.machine.specs.Range.{form_fits, flush_fits, flushes_fit}
use Rattle.machine.specs.declared.Machine.{Machine}
use Rattle.range.specs.Parts.{wide_head, wide_node, wide_thread, flush_in, bad_flush, bad_set}

module _ (m : Machine) where
  pub form_by : form_fits m ≡ both (known m.form) (both (not (any (wide_head m) (head_lines (shape_of m)))) (both (not (any (wide_node m) m.n)) (not (any (wide_thread m) m.t))))
  unfolding form_fits wide_head wide_node wide_thread
  form_by = refl

-- ---- #104: what is known of flushes

pub flushes_by : (m : Machine)
    → flushes_fit m ≡ both (not (any (bad_flush (top_of m.form) m.t m.flushed m.late) m.t)) (both (not (any (bad_set m.t m.over_heads) (head_lines (shape_of m)))) (not (any (bad_set m.t m.over) m.n)))
unfolding flushes_fit flush_fits bad_flush bad_set flush_in
flushes_by m = refl

-- the sets in the first n places
pub sets_by : (k n : ℕ) (ws : List ℕ) → n ≤ length ws → list_all (λ w. ltb w (2 ^ k)) (take n ws) ≡ not (any (bad_set k ws) n)
unfolding bad_set
sets_by k n ws h = all_first (λ w. ltb w (2 ^ k)) ws 0 n h

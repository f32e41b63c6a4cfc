-- A record whose numbers are in their ranges: 18's test without "no node where some thread's next step uses one".
use Rattle.std.specs.Prelude.{ℕ, Bool, true, not, eqb, leb}
use Rattle.lists.specs.Find.{pick, both, any}
use Rattle.machine.specs.Record.{thread}
use Rattle.machine.specs.Stage.{A12, F10, number, is_step}
use Rattle.machine.specs.Range.{is_link, sizes_fit, ends_fit, free_fits, node_fits, form_fits, flushes_fit}
use Rattle.machine.specs.declared.Machine.{Machine}

-- a thread's step is a step, and each node number in it is a node or none
unfoldable pub thread_numbers : Machine → ℕ → Bool
thread_numbers m k =
    let v = thread m k in
    both (is_step m v.step)
    (both (is_link m v.node) (both (is_link m v.tail) (both (is_link m v.head) (both (is_link m v.next) (is_link m v.held)))))

-- the whole record but its indices and what it knows of flushes
unfoldable pub ranges_kept : Machine → Bool
ranges_kept m =
    both (sizes_fit m)
    (both (ends_fit m)
    (both (free_fits m)
    (both (not (any (λ i. not (node_fits m i)) m.n)) (not (any (λ k. not (thread_numbers m k)) m.t)))))

-- and with them
unfoldable pub numbers_fit : Machine → Bool
numbers_fit m = both (ranges_kept m) (both (form_fits m) (flushes_fit m))

-- a step of an enqueue, or none
abbrev pub of_enqueue : ℕ → Bool
of_enqueue s = pick (leb s (number A12)) true (eqb s (number F10))

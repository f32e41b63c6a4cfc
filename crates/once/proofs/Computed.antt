-- The claim computed where each of the five answers is given, and refuted of two other machines. Assumes nothing.
use Prim.Native.Nat.{ℕ}
use mathlib.Core.Path.{◌≡◌, refl, subst}
use mathlib.Core.List.{List, [], ◌∷◌}
use native.Mathlib.Omega.{arith}
use Rattle.lists.specs.Find.{least, around, any, count}
use Rattle.lists.specs.Tab.{tab, joined, over, front}
use Rattle.lists.specs.Word.{has, with, without, word_of}
use Rattle.answer.specs.Answers.{Answer, Done, Full, WornOut, Item, Empty}
use Rattle.image.specs.Form.{top_of, width_of, head_lines, own_threads, per_desk}
use Rattle.image.specs.Layout.{no_contents, no_heads, heads_of}
use Rattle.image.specs.Recovered.{largest, head_of, recovered, twins, has_twin, first_twin, dummy_of}
use Rattle.image.specs.Refusals.{startable}
use Rattle.machine.specs.Record.{blank_nodes, idle_threads, no_flushed, no_sets}
use Rattle.machine.specs.Flush.{late_after, over_after}
use Rattle.machine.specs.Line.{line_at}
use Rattle.machine.specs.Start.{insert, risen, behind, last_of, start_with, fresh_of}
use Rattle.machine.specs.Retire.{next_free, released_at, released, others, retired}
use Rattle.machine.specs.Event.{event_at}
use Rattle.once.specs.Once.{touch_of, Answered, answered_by, Once, Each}
use Rattle.once.specs.Instances.{enqueue, stepping, four, four_desks, desks, worn, by0, twice, never}

abbrev says : ℕ → Answer → ℕ → Answered
says p a x = record { event = p; thread = 0; answer = a; persists = x }

-- Done 1, an item 1, Full 0, Empty 1; the first of them before a crash
pub four_computed : by0 touch_of (fresh_of 2 1) four ≡ says 12 Done 1 ∷ says 21 (Item 7) 1 ∷ says 23 Full 0 ∷ says 28 Empty 1 ∷ []
unfolding answered_by least around any count tab joined over front has with without word_of no_contents no_heads head_lines own_threads per_desk heads_of largest head_of recovered twins has_twin first_twin dummy_of
    startable blank_nodes idle_threads line_at insert risen behind last_of start_with next_free released_at released others retired top_of width_of no_flushed no_sets late_after over_after event_at
four_computed = refl

-- the same where each thread has a head line: the store before the persist does not count
pub desks_computed : by0 touch_of desks four_desks ≡ says 12 Done 1 ∷ says 22 (Item 7) 1 ∷ says 24 Full 0 ∷ says 30 Empty 1 ∷ []
unfolding answered_by least around any count tab joined over front has with without word_of no_contents no_heads head_lines own_threads per_desk heads_of largest head_of recovered twins has_twin first_twin dummy_of
    startable blank_nodes idle_threads line_at insert risen behind last_of start_with next_free released_at released others retired top_of width_of no_flushed no_sets late_after over_after event_at
desks_computed = refl

-- Worn out 0
pub worn_computed : by0 touch_of worn (enqueue 7 ∷ stepping 7) ≡ says 7 WornOut 0 ∷ []
unfolding answered_by least around any count tab joined over front has with without word_of no_contents no_heads head_lines own_threads per_desk heads_of largest head_of recovered twins has_twin first_twin dummy_of
    startable blank_nodes idle_threads line_at insert risen behind last_of start_with next_free released_at released others retired top_of width_of no_flushed no_sets late_after over_after event_at
worn_computed = refl

twice_computed : by0 twice (fresh_of 2 1) (enqueue 7 ∷ stepping 12) ≡ says 12 Done 2 ∷ []
unfolding answered_by least around any count tab joined over front has with without word_of no_contents no_heads head_lines own_threads per_desk heads_of largest head_of recovered twins has_twin first_twin dummy_of
    startable blank_nodes idle_threads line_at insert risen behind last_of start_with next_free released_at released others retired top_of width_of no_flushed no_sets late_after over_after event_at
twice_computed = refl

never_computed : by0 never (fresh_of 2 1) (enqueue 7 ∷ stepping 12) ≡ says 12 Done 0 ∷ []
unfolding answered_by least around any count tab joined over front has with without word_of no_contents no_heads head_lines own_threads per_desk heads_of largest head_of recovered twins has_twin first_twin dummy_of
    startable blank_nodes idle_threads line_at insert risen behind last_of start_with next_free released_at released others retired top_of width_of no_flushed no_sets late_after over_after event_at
never_computed = refl

-- a machine that persists twice, and one that does not at all
pub not_twice : Each Once (by0 twice (fresh_of 2 1) (enqueue 7 ∷ stepping 12)) → ⊥
not_twice p = omega (arith, (subst (Each Once) twice_computed p).0)

pub not_never : Each Once (by0 never (fresh_of 2 1) (enqueue 7 ∷ stepping 12)) → ⊥
not_never p = omega (arith, (subst (Each Once) never_computed p).0)

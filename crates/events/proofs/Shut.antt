-- At the inputs of P1 to P5 the event call's contract, as the source has it, shuts out benches that cheat. Assumes nothing.
use Prim.Native.Nat.{ℕ}
use mathlib.Core.Path.{◌≡◌, refl, sym, ap, ◌∙◌}
use mathlib.Core.Bool.{Bool, true, false}
use mathlib.Core.List.{List, [], ◌∷◌, ◌++◌}
use native.Mathlib.Omega.{arith}
use lib.Dec.{eqb}
use Rattle.lists.specs.Find.{least, around, any, count}
use Rattle.lists.specs.Tab.{tab, joined, over, front}
use Rattle.lists.specs.Word.{has, with, without, word_of}
use Rattle.answer.specs.Answers.{told, accepted, replied, Answer}
use Rattle.answer.specs.declared.Told.{Told}
use Rattle.image.specs.declared.Content.{Content}
use Rattle.image.specs.Form.{known, top_of, width_of, head_lines, own_threads, per_desk}
use Rattle.image.specs.Layout.{no_content, no_contents, no_heads, heads_of}
use Rattle.image.specs.Recovered.{largest, head_of, recovered, twins, has_twin, first_twin, dummy_of}
use Rattle.image.specs.Refusals.{startable}
use Rattle.machine.specs.Record.{node, blank_nodes, idle_threads, no_flushed, no_sets}
use Rattle.machine.specs.Line.{line_at}
use Rattle.machine.specs.Flush.{late_after, over_after}
use Rattle.machine.specs.Start.{insert, risen, behind, last_of, start_with, fresh_of}
use Rattle.machine.specs.Retire.{out, next_free, released_at, released, others, retired}
use Rattle.machine.specs.Range.{ranges_fit, head_fits, index_fits, form_fits, flush_fits, flushes_fit, in_range, node_fits, thread_fits}
use Rattle.machine.specs.Event.{event_at, event_on}
use Rattle.machine.specs.declared.Machine.{Machine}
use Rattle.machine.specs.declared.Node.{Node}
use Rattle.machine.specs.declared.Event.{Event}
use Rattle.machine.specs.declared.Out.{Out}
use Rattle.events.specs.Points.{enqueue, step, leaves, after, Point, P1, P2, P3, P4, P5, before, given, was, is, reply, step_number, line_two}
use Rattle.events.proofs.on_event.Reads as on_event_lem

-- a result that the contract allows
abbrev pub Meets : Machine → Event → Out → Type 0
Meets m e r = on_event_lem.Post tt (m, (e, tt)) r (m, (e, tt))

-- what is computed at each point
pub record Facts (c : Point) : Type 0 where
  pub old : step_number (given c) ≡ was c
  pub new : step_number (event_on (given c) step).machine ≡ is c
  pub answer : told (event_on (given c) step).answer ≡ replied (reply c) 0

pub facts : (c : Point) → Facts c
unfolding leaves least around any count tab joined over front has with without word_of no_contents no_heads head_lines own_threads per_desk heads_of largest head_of recovered twins has_twin first_twin dummy_of startable
    blank_nodes idle_threads no_flushed no_sets late_after over_after insert risen behind last_of start_with next_free released_at released others retired ranges_fit head_fits index_fits form_fits flush_fits flushes_fit known top_of width_of in_range node_fits thread_fits event_at event_on
facts P1 = record { old = refl; new = refl; answer = refl }
facts P2 = record { old = refl; new = refl; answer = refl }
facts P3 = record { old = refl; new = refl; answer = refl }
facts P4 = record { old = refl; new = refl; answer = refl }
facts P5 = record { old = refl; new = refl; answer = refl }

clash : {b : Bool} → b ≡ true → b ≡ false → ⊥
clash p q = let z : ◌≡◌ {A = Bool} true false = sym p ∙ q in let y : ◌≡◌ {A = ℕ} 0 1 = cc in absurd (omega arith)

-- "A bench that refuses all": a refusal is allowed at none of the five
pub refuses_all : (c : Point) (a : Answer) (x : Machine) → accepted a ≡ false → Meets (given c) step (out a x) → ⊥
refuses_all c a x h p =
    let e : told a ≡ replied (reply c) 0 = p.0 ∙ (facts c).answer in
    clash (ap (λ (z : Told). eqb z.number 0) e) h

-- "one that answers the same each time": no answer is allowed at P1 and at P5
pub answers_same : (a : Answer) (x y : Machine) → Meets (given P1) step (out a x) → Meets (given P5) step (out a y) → ⊥
answers_same a x y p q =
    let e : replied 0 0 ≡ replied 2 0 = sym (facts P1).answer ∙ sym p.0 ∙ q.0 ∙ (facts P5).answer in
    omega (arith, ap (λ (z : Told). z.reply) e)

changes : (c : Point) → was c ≡ is c → ⊥
changes P1 e = omega arith
changes P2 e = omega arith
changes P3 e = omega arith
changes P4 e = omega arith
changes P5 e = omega arith

-- "one that leaves the machine untouched", whatever it answers
pub untouched : (c : Point) (a : Answer) → Meets (given c) step (out a (given c)) → ⊥
untouched c a p = changes c (sym (facts c).old ∙ ap step_number p.1 ∙ (facts c).new)

-- a bench whose every result is allowed leaves the machine that the definitions leave
pub follows : (b : Machine → Event → Out) → ((m : Machine) (e : Event) → Meets m e (b m e)) → (m : Machine) (l : List Event) → leaves b m l ≡ leaves event_on m l
unfolding leaves
follows b h m [] = refl
follows b h m (e ∷ l) = follows b h (b m e).machine l ∙ ap (λ (x : Machine). leaves event_on x l) (h m e).1

-- the first step alone
abbrev pub first_step : Machine
first_step = after (enqueue 7 ∷ step ∷ [])

-- memory after it, and after P2's events: the persisted copy of line 2 is (1, 1, 7)
not_yet : line_two first_step ≡ no_content
unfolding leaves least around any count tab joined over front has with without word_of no_contents no_heads head_lines own_threads per_desk heads_of largest head_of recovered twins has_twin first_twin dummy_of startable
    blank_nodes idle_threads no_flushed no_sets late_after over_after insert risen behind last_of start_with next_free released_at released others retired ranges_fit head_fits index_fits form_fits flush_fits flushes_fit known top_of width_of in_range node_fits thread_fits event_at event_on line_at
not_yet = refl

there : line_two (after (before P2 ++ (step ∷ []))) ≡ record { linked = 1; index = 1; item = 7 }
unfolding leaves least around any count tab joined over front has with without word_of no_contents no_heads head_lines own_threads per_desk heads_of largest head_of recovered twins has_twin first_twin dummy_of startable
    blank_nodes idle_threads no_flushed no_sets late_after over_after insert risen behind last_of start_with next_free released_at released others retired ranges_fit head_fits index_fits form_fits flush_fits flushes_fit known top_of width_of in_range node_fits thread_fits event_at event_on line_at
there = refl

pub persists_really :
    (b : Machine → Event → Out) → ((m : Machine) (e : Event) → Meets m e (b m e)) →
    line_two (leaves b (fresh_of 2 1) (before P2 ++ (step ∷ []))) ≡ record { linked = 1; index = 1; item = 7 }
persists_really b h = ap line_two (follows b h (fresh_of 2 1) (before P2 ++ (step ∷ []))) ∙ there

-- "One that performs the first step and afterwards only claims to", at P2: whatever it answers, and whatever it writes down beside, memory is as after the first step
pub only_claims :
    (b : Machine → Event → Out) → ((m : Machine) (e : Event) → Meets m e (b m e)) →
    line_two (leaves b (fresh_of 2 1) (before P2 ++ (step ∷ []))) ≡ line_two first_step → ⊥
only_claims b h e = omega (arith, ap (λ (c : Content). c.item) (sym (persists_really b h) ∙ e ∙ not_yet))

-- and already where it first only claims: at the second step, A2, it leaves node 1 as it is
old_item : (node first_step 1).item ≡ 0
unfolding leaves least around any count tab joined over front has with without word_of no_contents no_heads head_lines own_threads per_desk heads_of largest head_of recovered twins has_twin first_twin dummy_of startable
    blank_nodes idle_threads no_flushed no_sets late_after over_after insert risen behind last_of start_with next_free released_at released others retired ranges_fit head_fits index_fits form_fits flush_fits flushes_fit known top_of width_of in_range node_fits thread_fits event_at event_on line_at
old_item = refl

new_item : (node (event_on first_step step).machine 1).item ≡ 7
unfolding leaves least around any count tab joined over front has with without word_of no_contents no_heads head_lines own_threads per_desk heads_of largest head_of recovered twins has_twin first_twin dummy_of startable
    blank_nodes idle_threads no_flushed no_sets late_after over_after insert risen behind last_of start_with next_free released_at released others retired ranges_fit head_fits index_fits form_fits flush_fits flushes_fit known top_of width_of in_range node_fits thread_fits event_at event_on line_at
new_item = refl

pub claims_second : (a : Answer) (x : Machine) → node x 1 ≡ node first_step 1 → Meets first_step step (out a x) → ⊥
claims_second a x e p = omega (arith, old_item, new_item, ap (λ (v : Node). v.item) e, ap (λ (m : Machine). (node m 1).item) p.1)

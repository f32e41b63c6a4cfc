-- A refused event changes nothing. Assumes nothing.
use Prim.Native.Nat.{ℕ, ◌+◌}
use mathlib.Core.Path.{◌≡◌, refl, sym, ◌∙◌}
use mathlib.Core.Bool.{Bool, true, false}
use native.Mathlib.Omega.{arith}
use lib.Dec.{eqb, leb}
use Rattle.lists.specs.Find.{pick, both}
use Rattle.answer.specs.Answers.{accepted, Answer, Full, WornOut, Record}
use Rattle.image.specs.Form.{top_of, per_desk}
use Rattle.machine.specs.Record.{none, node, thread, own_node, with_next, with_index, put_node, put_head, put_head_node, head_at}
use Rattle.machine.specs.Stage.{Stage, no_step, A1, A2, A3, A4, A5, A6, A7, A8, A9, A10, A11, A12, D1, D2, D3, D4, D5, D6, D7, S3, S6, F10, F3, F6, stage}
use Rattle.machine.specs.Retire.{out, quiet, moving, going, answering, storing, next_free, hand_out, freed}
use Rattle.machine.specs.Event.{Deed, unknown, enqueues, dequeues, steps, writes_back, crashes, deed_of, event_answer, done, stepped, event_at, handed, event_on}
use Rattle.machine.specs.Range.{in_range}
use Rattle.machine.specs.declared.Machine.{Machine}
use Rattle.machine.specs.declared.Event.{Event}
use Rattle.machine.specs.declared.Acted.{Acted}
use Rattle.machine.specs.declared.Out.{Out}
use Rattle.machine.specs.declared.Line.TheVariants.{OfHead as of_head, OfNode as of_node}

abbrev Fine : Acted → Type 0
Fine o = accepted o.answer ≡ true

pick_fine : (b : Bool) (x y : Acted) → Fine x → Fine y → Fine (pick b x y)
pick_fine true x y p q = p
pick_fine false x y p q = q

-- what is done is no refusal
pub step_taken : (m : Machine) (k : ℕ) (s : Stage) → accepted (stepped m k s).answer ≡ true
step_taken m k no_step = refl
step_taken m k A1 =
    pick_fine (eqb m.free 0) (answering Full m k)
    (moving (hand_out m (next_free m)) k (own_node (thread m k) (next_free m)) 2) refl refl
step_taken m k A2 = refl
step_taken m k A3 = refl
step_taken m k A4 = refl
step_taken m k A5 = refl
step_taken m k A6 = refl
step_taken m k A7 =
    let i = (thread m k).node in
    let t = (thread m k).tail in
    pick_fine (leb (top_of m.form) (node m t).index) (answering WornOut (freed m i) k)
    (storing (of_node i) (going (put_node m i (with_index (node m i) ((node m t).index + 1))) k 8)) refl refl
step_taken m k A8 =
    let i = (thread m k).node in
    let t = (thread m k).tail in
    pick_fine (eqb (node m t).next none) (going (put_node m t (with_next (node m t) i)) k 9) (going m k 12) refl refl
step_taken m k A9 = refl
step_taken m k A10 = refl
step_taken m k A11 = refl
step_taken m k A12 = refl
step_taken m k D1 = refl
step_taken m k D2 = refl
step_taken m k D3 = refl
step_taken m k D4 =
    let x = (thread m k).next in
    let d = per_desk m.form in
    let desk = going (put_head_node m x) k 17 in
    let pair = storing (of_head 0) (going (put_head m x (node m x).index) k 17) in
    pick_fine (both (eqb m.head (thread m k).head) (pick d true (eqb (head_at m 0) (thread m k).index))) (pick d desk pair) (going m k 13)
    (pick_fine d desk pair refl refl) refl
step_taken m k D5 = refl
step_taken m k D6 = refl
step_taken m k D7 = refl
step_taken m k S3 = refl
step_taken m k S6 = refl
step_taken m k F10 = refl
step_taken m k F3 = refl
step_taken m k F6 = refl

pub done_taken : (m : Machine) (e : Event) (d : Deed) → accepted (done m e d).answer ≡ true
done_taken m e unknown = refl
done_taken m e enqueues = refl
done_taken m e dequeues = refl
done_taken m e steps = step_taken m e.number (stage m e.number)
done_taken m e writes_back = refl
done_taken m e crashes = refl

both_ways : {b : Bool} → b ≡ true → b ≡ false → ⊥
both_ways p q = let z : ◌≡◌ {A = Bool} true false = sym p ∙ q in let y : ◌≡◌ {A = ℕ} 0 1 = cc in absurd (omega arith)

-- an answer that is a refusal leaves the machine, one that is none is not refused
abbrev chosen : Answer → Machine → Event → Deed → Bool → Acted
chosen a m e d b = elim b [ true ↦ done m e d | false ↦ quiet a m ]

same_at : (a : Answer) (m : Machine) (e : Event) (d : Deed) (b : Bool) → accepted (chosen a m e d b).answer ≡ false → (chosen a m e d b).machine ≡ m
same_at a m e d true h = absurd (both_ways (done_taken m e d) h)
same_at a m e d false h = refl

pub at_same : (p : ℕ) (m : Machine) (e : Event) → accepted (event_at p m e).answer ≡ false → (event_at p m e).machine ≡ m
unfolding event_at
at_same p m e h =
    let a = event_answer p m e (deed_of e.kind) in
    same_at a m e (deed_of e.kind) (accepted a) h

abbrev tested : Machine → Event → Bool → Out
tested m e b = elim b [ true ↦ handed (event_at 0 m e) | false ↦ out Record m ]

same_on : (m : Machine) (e : Event) (b : Bool) → accepted (tested m e b).answer ≡ false → (tested m e b).machine ≡ m
same_on m e true h = at_same 0 m e h
same_on m e false h = refl

pub on_same : (m : Machine) (e : Event) → accepted (event_on m e).answer ≡ false → (event_on m e).machine ≡ m
unfolding event_on
on_same m e h = same_on m e (in_range m) h

-- A run that has been opened has come to its first event; one event forward that is taken, it has come one further.
use Prim.Native.Nat.{ℕ, ◌+◌, ◌<◌, ◌≤◌}
use mathlib.Core.Path.{◌≡◌, refl, sym, ap, ap₂, subst, ◌∙◌}
use mathlib.Core.Bool.{Bool, true, false}
use mathlib.Core.List.{List}
use native.Mathlib.Omega.{arith}
use native.Mathlib.Numerals.{add-one}
use lib.ListN.{length, get_or}
use Rattle.lists.specs.Tab.{tab}
use Rattle.answer.specs.Answers.{accepted, Taken}
use Rattle.image.specs.Form.{known, head_lines}
use Rattle.image.specs.Layout.{form_in, shape_in, image_shape, image_in}
use Rattle.image.specs.declared.Shape.{Shape}
use Rattle.image.proofs.ShapeLaws.{shaped_lines}
use Rattle.machine.specs.Start.{start_of}
use Rattle.machine.specs.Event.{event_at}
use Rattle.machine.specs.Range.{in_range}
use Rattle.machine.specs.declared.Machine.{Machine}
use Rattle.machine.specs.declared.Event.{Event}
use Rattle.machine.specs.declared.Acted.{Acted}
use Rattle.machine.specs.declared.Touch.TheVariants.{Nothing as nothing}
use Rattle.schedule.specs.Layout.{schedule_in, schedule_answer, event_from, event_place, event_in, threads_in, count_in, image_part, nodes_in, schedule_shape}
use Rattle.schedule.specs.Run.{Bench, bench_at, opened}
use Rattle.schedule.specs.Running.{Reached, no_event, opened_run, forward_run, bench_to, ran_to}
use Rattle.schedule.specs.declared.Schedule.{Schedule}
use Rattle.schedule.specs.declared.Running.{Running}
use Rattle.codec.proofs.Accepted as codec
use Rattle.tied.proofs.Schedules as schedules
use Rattle.onward.proofs.Come.{Come, reply_in, come_none, come_next, next_machine}

-- ---- at the code's terms

pub opened_is : (s : List ℕ) (d : Schedule) (m : Machine) → d ≡ schedule_in s → m ≡ start_of d.image (get_or s 5 0)
    → record { t = get_or s 5 0; n = d.image.n; form = d.image.form; count = d.count; place = 0; answer = Taken; machine = m; event = no_event; touch = nothing } ≡ opened_run s
unfolding schedule_in image_in shape_in
opened_is s d m e b =
    ap (λ (x : Machine). record { t = get_or s 5 0; n = d.image.n; form = d.image.form; count = d.count; place = 0; answer = Taken; machine = x; event = no_event; touch = nothing }) b
    ∙ ap (λ (d : Schedule). record { t = get_or s 5 0; n = d.image.n; form = d.image.form; count = d.count; place = 0; answer = Taken; machine = start_of d.image (get_or s 5 0); event = no_event; touch = nothing }) e

pub nodes_small : (s : List ℕ) (d : Schedule) → d ≡ schedule_in s → accepted (schedule_answer s) ≡ true → (d.image.n ≤ 64) × (head_lines (image_shape d.image) ≤ 8)
unfolding schedule_in image_in
nodes_small s d is a =
    subst (λ (x : Schedule). (x.image.n ≤ 64) × (head_lines (image_shape x.image) ≤ 8)) (sym is)
    (shaped_lines (threads_in s) (shape_in (image_part s)) (codec.schedule_taken s a).part.shape)

pub shape_at : (s : List ℕ) (f n : ℕ) → f ≡ form_in (image_part s) → n ≡ nodes_in s → record { form = f; n = n; t = threads_in s } ≡ schedule_shape s
shape_at s f n p q = ap₂ (λ (x y : ℕ). record { form = x; n = y; t = threads_in s }) p q

pub forward_is : (s : List ℕ) (g : Running) (z : Shape) → z ≡ schedule_shape s → (e : Event) (o : Acted) → e ≡ event_from s (event_place z g.place) → o ≡ event_at g.place g.machine e
    → record { t = g.t; n = g.n; form = g.form; count = g.count; place = g.place + 1; answer = o.answer; machine = o.machine; event = e; touch = o.touch } ≡ forward_run s g
forward_is s g z f e o q a =
    ap (λ (o : Acted). record { t = g.t; n = g.n; form = g.form; count = g.count; place = g.place + 1; answer = o.answer; machine = o.machine; event = e; touch = o.touch }) a
    ∙ ap (λ (e : Event). let o = event_at g.place g.machine e in record { t = g.t; n = g.n; form = g.form; count = g.count; place = g.place + 1; answer = o.answer; machine = o.machine; event = e; touch = o.touch })
    (q ∙ ap (λ (z : Shape). event_from s (event_place z g.place)) f)

-- the event's bytes lie within the schedule's
pub event_lies : (s : List ℕ) (z : Shape) (i : ℕ) → z ≡ schedule_shape s → accepted (schedule_answer s) ≡ true → i < count_in s → (known z.form ≡ true) × (event_place z i + 6 ≤ length s)
event_lies s z i e a lt = subst (λ (z : Shape). (known z.form ≡ true) × (event_place z i + 6 ≤ length s)) (sym e) ((codec.schedule_taken s a).part.mark, codec.event_fits s i a lt)

-- ---- how far a run has come

pub reached_opened : (s : List ℕ) → accepted (schedule_answer s) ≡ true → Reached s (opened_run s)
unfolding bench_at
reached_opened s a =
    let c = come_none (opened (schedule_in s)) (event_in s) in
    record { schedule = a; nodes = refl; form = refl; count = refl; machine = refl; taken = c.taken; come = c.come }

module _ (s : List ℕ) (g : Running) (r : Reached s g) where
  -- 18 does not refuse the record
  pub reached_range : ((j : ℕ) → get_or s j 0 < 256) → in_range g.machine ≡ true
  reached_range bytes =
      ap in_range (r.machine ∙ sym (ap (λ (x : Bench). x.machine) r.come))
      ∙ schedules.events_in_range s bytes r.schedule 0 (tab (event_in s) g.place)

  module _ (a : accepted (forward_run s g).answer ≡ true) where
    abbrev i : ℕ
    i = g.place

    abbrev b₀ : Bench
    b₀ = opened (schedule_in s)

    here : Come b₀ (event_in s) i
    here = record { taken = r.taken; come = r.come }

    taken' : accepted (reply_in b₀ (event_in s) i) ≡ true
    taken' = subst (λ (x : Machine). accepted (event_at i x (event_in s i)).answer ≡ true) r.machine a

    next : Come b₀ (event_in s) (i + 1)
    next = subst (Come b₀ (event_in s)) (sym (add-one i)) (come_next b₀ (event_in s) i here taken')

    pub reached_next : Reached s (forward_run s g)
    reached_next = record {
      schedule = r.schedule;
      nodes = r.nodes;
      form = r.form;
      count = r.count;
      machine = ap (λ (x : Machine). (event_at i x (event_in s i)).machine) r.machine ∙ sym (next_machine b₀ (event_in s) i here taken') ∙ ap (λ (k : ℕ). (bench_to s k).machine) (sym (add-one i));
      taken = next.taken;
      come = next.come;
    }

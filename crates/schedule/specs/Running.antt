-- A run as the code goes through it: one value, opened once, taken forward by one event at a time.
use Rattle.std.specs.Prelude.{ℕ, ◌+◌, ◌≡◌, true, List}
use Rattle.lists.specs.Tab.{tab}
use Rattle.answer.specs.Answers.{accepted, Taken}
use Rattle.machine.specs.Start.{start_of}
use Rattle.machine.specs.Event.{event_at}
use Rattle.machine.specs.declared.Event.{Event}
use Rattle.machine.specs.declared.Touch.TheVariants.{Nothing as nothing}
use Rattle.image.specs.Layout.{form_in}
use Rattle.schedule.specs.Layout.{threads_in, count_in, image_part, nodes_in, schedule_in, schedule_answer, event_in}
use Rattle.schedule.specs.Run.{Bench, Ran, bench_at, run, opened}
use Rattle.schedule.specs.declared.Running.{Running}

abbrev pub no_event : Event
no_event = record { kind = 0; number = 0; item = 0 }

-- before the first event
abbrev pub opened_run : List ℕ → Running
opened_run s = record {
  t = threads_in s;
  n = nodes_in s;
  form = form_in (image_part s);
  count = count_in s;
  place = 0;
  answer = Taken;
  machine = (opened (schedule_in s)).machine;
  event = no_event;
  touch = nothing;
}

-- one event further
abbrev pub forward_run : List ℕ → Running → Running
forward_run s g =
    let e = event_in s g.place in
    let o = event_at g.place g.machine e in
    record {
      t = g.t;
      n = g.n;
      form = g.form;
      count = g.count;
      place = g.place + 1;
      answer = o.answer;
      machine = o.machine;
      event = e;
      touch = o.touch;
    }

-- the bench after the first i events
abbrev pub bench_to : List ℕ → ℕ → Bench
bench_to s i = bench_at (opened (schedule_in s)) (event_in s) i

-- the run of the first i events
abbrev pub ran_to : List ℕ → ℕ → Ran
ran_to s i = run 0 (opened (schedule_in s)) (tab (event_in s) i)

-- g has come so far: the schedule is one, and the events before its place were taken
pub record Reached (s : List ℕ) (g : Running) : Type 0 where
  pub schedule : accepted (schedule_answer s) ≡ true
  pub nodes : g.n ≡ nodes_in s
  pub form : g.form ≡ form_in (image_part s)
  pub count : g.count ≡ count_in s
  pub machine : g.machine ≡ (bench_to s g.place).machine
  pub taken : accepted (ran_to s g.place).answer ≡ true
  pub come : (ran_to s g.place).bench ≡ bench_to s g.place

-- A run goes on by one event, is refused, or comes to its end.
use Prim.Native.Nat.{ℕ, zero, suc, ◌+◌, ◌<◌, ◌≤◌}
use mathlib.Core.Path.{◌≡◌, refl, sym, ap, ap₂, subst, ◌∙◌}
use mathlib.Core.Bool.{Bool, true, false}
use mathlib.Core.List.{List, [], ◌∷◌}
use native.Mathlib.Omega.{arith}
use native.Mathlib.Numerals.{add-one}
use lib.ListN.{length, drop}
use lib.Dec.{eqb, eqb→eq}
use Rattle.lists.specs.Find.{pick}
use Rattle.lists.specs.Tab.{tab}
use Rattle.lists.proofs.BoolLaws.{yes_of}
use Rattle.lists.proofs.TabLaws as tabs
use Rattle.answer.specs.Answers.{accepted, Taken}
use Rattle.image.specs.declared.Content.{Content}
use Rattle.machine.specs.Line.{shape_of, line_count}
use Rattle.machine.specs.Event.{crashes, deed_of, event_at}
use Rattle.machine.specs.declared.Machine.{Machine}
use Rattle.image.proofs.ShapeLaws.{nodes_range, threads_range}
use Rattle.codec.proofs.Accepted as codec
use Rattle.machine.specs.declared.Event.{Event}
use Rattle.machine.specs.declared.Acted.{Acted}
use Rattle.machine.specs.declared.Touch.{Touch}
use Rattle.machine.specs.declared.Touch.TheVariants.{Nothing as nothing, Store as a_store, Persist as a_persist, Flush as a_flush, Fence as a_fence}
use Rattle.std.specs.Prelude.{Result, Ok, Err}
use Rattle.std.specs.Result.{IsErrAnd}
use Rattle.answer.specs.declared.Refusal.{Refusal}
use Rattle.image.specs.Form.{known, head_lines}
use Rattle.image.specs.declared.Shape.{Shape}
use Rattle.image.specs.Layout.{shape_in, image_in}
use Rattle.schedule.specs.Layout.{schedule_in, schedule_answer, event_from, event_place, event_in, events_in, threads_in, count_in, nodes_in, schedule_shape}
use Rattle.schedule.specs.Run.{Ran, Bench, forward, bench_at, run, ran, opened, and_before}
use Rattle.page.specs.Refusals.{table_in}
use Rattle.page.specs.Contents.{table_of}
use Rattle.moments.specs.Frame.{Even}
use Rattle.endtable.specs.Opened.{opened_table, opened_counts}
use Rattle.endtable.specs.Since.{no_since, since_after}
use Rattle.endtable.specs.declared.row.Row.{Row}
use Rattle.endtable.specs.Tables.{Tables, over_line, table_after, counts_after}
use Rattle.endtable.specs.Benches.{Stands}
use Rattle.endtable.proofs.Benches as benches
use Rattle.endtable.proofs.TableLaws as tables
use Rattle.endtable.proofs.SinceRows.{length_no_since}
use Rattle.moments.proofs.Steps.{frame_event}
use Rattle.moments.proofs.Waiting.{Fencing, fencing_event}
use Rattle.endtable.proofs.Flushing.{Flushing, flushing_event}
use Rattle.moments.proofs.Moments as moments
use Rattle.pageproof.proofs.Even as evens
use Rattle.pageproof.proofs.Runs as runs
use Rattle.runs.specs.Rows.{OfThreads, ats_of, counts_of, opened_rows, rows_touched, touch_of, left_at, finds_later, rows_after, since_now}
use Rattle.schedule.specs.Running.{Reached, bench_to, ran_to, opened_run, forward_run}
use Rattle.onward.proofs.Reached.{reached_opened, reached_next, shape_at, forward_is, event_lies}
use Rattle.schedule.specs.declared.Running.{Running}
use Rattle.runs.specs.Going.{Going, RunTaken, RunIs}
use Rattle.runs.specs.declared.running.Run.{Run}
use Rattle.runs.proofs.RowLaws as rowlaws
use Rattle.runs.proofs.OverLaws.{over_is}

-- what the code's tables ask of a machine
abbrev pub Small : Machine → Type 0
Small m = (m.n ≤ 64) × (head_lines (shape_of m) ≤ 8)

-- ---- kind 5 is the crash

five : (k : ℕ) → eqb k 5 ≡ true → deed_of k ≡ crashes
five k e = ap deed_of (eqb→eq k 5 (rw e tt))

not_five : (k : ℕ) → eqb k 5 ≡ false → deed_of k ≡ crashes → ⊥
not_five zero e d = let z : ◌≡◌ {A = ℕ} 0 1 = cc in omega arith
not_five (suc zero) e d = let z : ◌≡◌ {A = ℕ} 0 1 = cc in omega arith
not_five (suc (suc zero)) e d = let z : ◌≡◌ {A = ℕ} 0 1 = cc in omega arith
not_five (suc (suc (suc zero))) e d = let z : ◌≡◌ {A = ℕ} 0 1 = cc in omega arith
not_five (suc (suc (suc (suc zero)))) e d = let z : ◌≡◌ {A = ℕ} 0 1 = cc in omega arith
not_five (suc (suc (suc (suc (suc zero))))) e d = let z : ◌≡◌ {A = ℕ} 0 1 = cc in omega arith
not_five (suc (suc (suc (suc (suc (suc k)))))) e d = let z : ◌≡◌ {A = ℕ} 0 1 = cc in omega arith

-- ---- one event more

pub one_more : (q : ℕ) (b : Bench) (e : Event) → accepted (event_at q b.machine e).answer ≡ true
    → run q b (e ∷ []) ≡ and_before (event_at q b.machine e).answer (record { answer = Taken; replies = []; bench = forward q b e })
unfolding run
one_more q b e h = yes_of _ _ (accepted (event_at q b.machine e).answer) h

module _ (s : List ℕ) where
  abbrev b₀ : Bench
  b₀ = opened (schedule_in s)

  abbrev f : ℕ → Event
  f = event_in s

  nothing_yet : (b : Bench) → run 0 b [] ≡ record { answer = Taken; replies = []; bench = b }
  unfolding run
  nothing_yet b = refl

  -- tables along two equations
  along : {t t' : List (List Content)} {cs cs' : List ℕ} {l : List (List Content)} → t' ≡ t → cs' ≡ cs → Tables t cs l → Tables t' cs' l
  along {t} {t'} {cs} {cs'} {l} p q h = subst (λ x. Tables x cs' l) (sym p) (subst (λ y. Tables t y l) (sym q) h)

  opened_ats : (m : Machine) → Small m → ats_of (opened_rows m) ≡ opened_table m (line_count (shape_of m))
  unfolding opened_rows
  opened_ats m h = rowlaws.rows_ats (opened_table m (line_count (shape_of m))) (opened_counts m (line_count (shape_of m))) (tables.tables_begin m h.0 h.1).tall

  opened_counts_lem : (m : Machine) → Small m → counts_of (opened_rows m) ≡ opened_counts m (line_count (shape_of m))
  unfolding opened_rows
  opened_counts_lem m h = rowlaws.rows_counts (opened_table m (line_count (shape_of m))) (opened_counts m (line_count (shape_of m))) (tables.tables_begin m h.0 h.1).long

  -- what stands for a table and counts stands for rows that have them
  stands_rows : (b : Bench) (m : Machine) (t : List (List Content)) (cs : List ℕ) (since rows : List Row)
      → ats_of rows ≡ t → counts_of rows ≡ cs → Stands b m t cs since → Stands b m (ats_of rows) (counts_of rows) since
  stands_rows b m t cs since rows p q h = record {
    machine = h.machine;
    small = h.small;
    few = h.few;
    known = h.known;
    tables = along p q h.tables;
    sinces = h.sinces;
  }

  pub going_start : (schedule_in s).t ≤ 8 → (schedule_in s).image.n ≤ 64 → (since : List Row) → length since ≡ 8 → (m : Machine) → m ≡ b₀.machine → Going s 0 m (opened_rows m) since
  unfolding bench_at tab ran events_in
  going_start t n since l m e = subst (λ (x : Machine). Going s 0 x (opened_rows x) since) (sym e) (record {
    stands =
        let st = benches.stands_begin (schedule_in s).image (schedule_in s).t t n since l in
        stands_rows b₀ b₀.machine _ _ since (opened_rows b₀.machine) (opened_ats b₀.machine (st.small, st.few)) (opened_counts_lem b₀.machine (st.small, st.few)) st;
    taken = ap (λ (r : Ran). accepted r.answer) (nothing_yet b₀);
    come = ap (λ (r : Ran). r.bench) (nothing_yet b₀);
    answer = refl;
    bench = refl;
  })

  -- ---- on the way

  module _ (i : ℕ) (m : Machine) (rows since : List Row) (g : Going s i m rows since) where
    abbrev b : Bench
    b = bench_to s i

    -- each line has as many persisted copies as cached ones
    pub going_even : Even m
    going_even =
        subst (λ (x : Machine). Even x) (sym (g.stands.machine ∙ sym (ap (λ (x : Bench). x.machine) g.come)))
        (runs.good_run (tab f i) 0 b₀ (record { timed = moments.timed_begins b₀.machine; even = evens.even_start (schedule_in s).image (schedule_in s).t }) g.taken).even

    pub going_small : Small m
    going_small = subst Small (sym g.stands.machine) (g.stands.small, g.stands.few)

    -- an event that is refused ends the run
    pub going_refused : i < count_in s → accepted (event_at i m (f i)).answer ≡ false → (event_at i m (f i)).answer ≡ (ran s).answer
    unfolding events_in
    going_refused h a =
        let q = ap (λ (x : Machine). (event_at i x (f i)).answer) g.stands.machine in
        q ∙ sym (g.answer ∙ ap (λ (r : Ran). r.answer) (benches.run_refused b₀ f (count_in s) i h (ap accepted (sym q) ∙ a)))

    -- no event is left
    pub going_end : count_in s ≤ i → RunTaken s (record { machine = m; rows = rows })
    unfolding events_in table_in
    going_end h =
        let e = benches.run_end b₀ f (count_in s) i h in
        record {
          answer = sym (g.answer ∙ ap (λ (r : Ran). r.answer) e);
          machine = g.stands.machine ∙ sym (ap (λ (x : Bench). x.machine) (g.bench ∙ ap (λ (r : Ran). r.bench) e));
          small = going_small;
          tables = subst (λ (x : Bench). Tables (ats_of rows) (counts_of rows) (table_of x)) (sym (g.bench ∙ ap (λ (r : Ran). r.bench) e)) g.stands.tables;
        }

    -- an event that is taken
    module _ (lt : i < count_in s) (a : accepted (event_at i m (f i)).answer ≡ true) (even : Even m) where
      abbrev e : Event
      e = f i

      abbrev m' : Machine
      m' = (event_at i b.machine e).machine

      now : m ≡ b.machine
      now = g.stands.machine

      taken' : accepted (event_at i b.machine e).answer ≡ true
      taken' = subst (λ (x : Machine). accepted (event_at i x e).answer ≡ true) now a

      even' : Even b.machine
      even' = subst (λ (x : Machine). Even x) now even

      own : Stands b b.machine (ats_of rows) (counts_of rows) since
      own = benches.stands_now b m (ats_of rows) (counts_of rows) since g.stands

      abbrev o : Acted
      o = event_at i b.machine e

      abbrev late : Bool
      late = finds_later b.machine o

      -- a fence finds something later where its thread is over the line
      late_is : (deed_of e.kind ≡ crashes → ⊥) → late ≡ over_line b.machine (touch_of o)
      late_is ne = over_is b.machine (shape_of m') (frame_event i b.machine e taken' ne).shape (touch_of o).line (touch_of o).thread

      stands' : Stands (forward i b e) m' (ats_of (rows_after rows since b.machine e o)) (counts_of (rows_after rows since b.machine e o)) (since_now since e o)
      unfolding rows_after since_now
      stands' = by (eqb e.kind 5) refl
        where
          by : (x : Bool) → eqb e.kind 5 ≡ x
              → Stands (forward i b e) m' (ats_of (pick x (opened_rows m') (rows_touched rows since late (touch_of o) (left_at o))))
              (counts_of (pick x (opened_rows m') (rows_touched rows since late (touch_of o) (left_at o))))
              (pick x since (since_after (shape_of m') m'.threads since (touch_of o) (left_at o)))
          by true w =
              let st = benches.stands_crash i b e (ats_of rows) (counts_of rows) since own taken' (five e.kind w) in
              let small : Small m' = subst Small (sym st.machine) (st.small, st.few) in
              stands_rows (forward i b e) m' _ _ since (opened_rows m') (opened_ats m' small) (opened_counts_lem m' small) st
          by false w =
              let ne = not_five e.kind w in
              stands_rows (forward i b e) m' _ _ (since_after (shape_of m') m'.threads since (touch_of o) (left_at o)) (rows_touched rows since late (touch_of o) (left_at o))
              (rowlaws.touched_ats rows since late (touch_of o) (left_at o) ∙ ap (λ (x : Bool). table_after (ats_of rows) (counts_of rows) since x (touch_of o) (left_at o)) (late_is ne))
              (rowlaws.touched_counts rows since late (touch_of o) (left_at o) ∙ ap (λ (x : Bool). counts_after (ats_of rows) (counts_of rows) since x (touch_of o) (left_at o)) (late_is ne))
              (benches.stands_event i b e (ats_of rows) (counts_of rows) since own taken' even' ne)

      on : run i b (drop i (events_in s)) ≡ and_before (event_at i b.machine e).answer (run (suc i) (bench_to s (suc i)) (drop (suc i) (events_in s)))
      unfolding events_in
      on = benches.run_on b₀ f (count_in s) i lt taken'

      more : ran_to s (suc i) ≡ runs.and_after (ran_to s i) (and_before (event_at i b.machine e).answer (record { answer = Taken; replies = []; bench = forward i b e }))
      unfolding tab
      more =
          runs.run_append (tab f i) (f i ∷ []) 0 b₀ g.taken
          ∙ ap (runs.and_after (ran_to s i))
          (ap₂ (λ (q : ℕ) (x : Bench). run q x (f i ∷ [])) (let z : 0 + length (tab f i) ≡ i = omega (arith, tabs.length_tab f i) in z) g.come ∙ one_more i b e taken')

      pub going_next : Going s (i + 1) (event_at i m e).machine (rows_after rows since m e (event_at i m e)) (since_now since e (event_at i m e))
      unfolding bench_at
      going_next =
          rw (add-one)
          (subst (λ (x : Machine). Going s (suc i) (event_at i x e).machine (rows_after rows since x e (event_at i x e)) (since_now since e (event_at i x e))) (sym now)
          (record {
            stands = stands';
            taken = ap (λ (r : Ran). accepted r.answer) more;
            come = ap (λ (r : Ran). r.bench) more;
            answer = g.answer ∙ ap (λ (r : Ran). r.answer) on;
            bench = g.bench ∙ ap (λ (r : Ran). r.bench) on;
          }))

-- ---- at the code's terms

-- what an event forward answered, left and touched
abbrev pub acted_of : Running → Acted
acted_of r = record { answer = r.answer; machine = r.machine; touch = r.touch }

-- both kinds of rows behind the event that g goes forward by
abbrev pub Next : List Row → List Row → Running → Running → List Row → List Row → Type 0
Next rows since g r x y = rowlaws.Behind rows since g.machine r.event (acted_of r) x y

-- the code's tests of one event: t says whether it was taken
module _ (s : List ℕ) (g : Running) (rows since : List Row) (w : Going s g.place g.machine rows since) (c : g.count ≡ count_in s) (below : g.place < g.count)
    (r : Running) (is : r ≡ forward_run s g) where
  lt : g.place < count_in s
  lt = omega (arith, c)

  pub going_on : accepted r.answer ≡ true → (x y : List Row) → Next rows since g r x y → Going s r.place r.machine x y
  going_on h =
      let n = going_next s g.place g.machine rows since w lt (subst (λ (z : Running). accepted z.answer ≡ true) is h)
      (going_even s g.place g.machine rows since w) in
      subst (λ (z : Running). (x y : List Row) → Next rows since g z x y → Going s z.place z.machine x y) (sym is)
      (λ x y q. subst (λ x. Going s (g.place + 1) (event_at g.place g.machine (event_in s g.place)).machine x y) (sym q.0)
      (subst (Going s (g.place + 1) (event_at g.place g.machine (event_in s g.place)).machine _) (sym q.1) n))

  pub going_on_small : accepted r.answer ≡ true → Small r.machine
  going_on_small h = going_small s r.place r.machine _ _ (going_on h (rows_after rows since g.machine r.event (acted_of r)) (since_now since r.event (acted_of r)) (refl, refl))

  pub going_stop : accepted r.answer ≡ false → r.answer ≡ (ran s).answer
  going_stop a = ap (λ (x : Running). x.answer) is ∙ going_refused s g.place g.machine rows since w lt (subst (λ (x : Running). accepted x.answer ≡ false) is a)

-- ---- the beginning

-- T and N as acceptance has them
begun_few : (s : List ℕ) → accepted (schedule_answer s) ≡ true → ((schedule_in s).t ≤ 8) × ((schedule_in s).image.n ≤ 64)
unfolding schedule_in image_in shape_in
begun_few s a =
    let t = codec.schedule_taken s a in
    ((threads_range (threads_in s) t.threads).1, (nodes_range (nodes_in s) t.part.nodes).1)

module _ (s : List ℕ) (a : accepted (schedule_answer s) ≡ true) (g : Running) (is : g ≡ opened_run s) where
  pub going_begun : (rows since : List Row) → rows ≡ opened_rows g.machine → length since ≡ 8 → Going s g.place g.machine rows since
  going_begun rows since e l =
      subst (λ x. Going s g.place g.machine x since) (sym e)
      (subst (λ (i : ℕ). Going s i g.machine (opened_rows g.machine) since) (ap (λ (x : Running). x.place) (sym is))
      (going_start s (begun_few s a).0 (begun_few s a).1 since l g.machine (ap (λ (x : Running). x.machine) is)))

  pub start_small : Small g.machine
  start_small = going_small s g.place g.machine _ _ (going_begun (opened_rows g.machine) no_since refl length_no_since)

-- ---- the loop

-- what holds of a run on its way and its rows
abbrev pub Under : List ℕ → Running → List Row → List Row → Type 0
Under s g rows since = (g.place ≤ g.count) × Going s g.place g.machine rows since × Reached s g × (g.t ≡ threads_in s)

pub under_begun : (s : List ℕ) → accepted (schedule_answer s) ≡ true → (g : Running) → g ≡ opened_run s → (rows since : List Row) → rows ≡ opened_rows g.machine → length since ≡ 8
    → Under s g rows since
under_begun s a g is rows since e l = (
  subst (λ (x : Running). x.place ≤ x.count) (sym is) (omega arith),
  going_begun s a g is rows since e l,
  subst (Reached s) (sym is) (reached_opened s a),
  ap (λ (x : Running). x.t) is,
)

pub under_next : (s : List ℕ) (g : Running) (rows since : List Row) → Under s g rows since → g.place < g.count → (r : Running) → r ≡ forward_run s g
    → accepted r.answer ≡ true → (x y : List Row) → Next rows since g r x y → Under s r x y
under_next s g rows since u below r is h x y q =
    let a = subst (λ (z : Running). accepted z.answer ≡ true) is h in (
      subst (λ (z : Running). z.place ≤ z.count) (sym is) (omega arith),
      going_on s g rows since u.1 u.2.count below r is h x y q,
      subst (Reached s) (sym is) (reached_next s g u.2 a),
      ap (λ (x : Running). x.t) is ∙ u.3,
    )

-- a thread that flushes or fences is one of the machine's
of_threads : (m : Machine) (w : Touch) → m.t ≤ 8 → Flushing m w → Fencing m w → OfThreads w
of_threads m nothing h fl fe = tt
of_threads m (a_store l) h fl fe = tt
of_threads m (a_persist l) h fl fe = tt
of_threads m (a_flush k l) h fl fe = omega (arith, fl k refl)
of_threads m (a_fence k l) h fl fe = omega (arith, (fe k l (refl, refl)).0)

-- ---- the loop's own values: the opened run g, how many events were taken, and the machine after them

abbrev pub run_at : Running → ℕ → Machine → Running
run_at g i m = record {
  t = g.t;
  n = g.n;
  form = g.form;
  count = g.count;
  place = i;
  answer = g.answer;
  machine = m;
  event = g.event;
  touch = g.touch;
}

pub under_start : (s : List ℕ) → accepted (schedule_answer s) ≡ true → (g : Running) → g ≡ opened_run s → (rows since : List Row) → rows ≡ opened_rows g.machine → since ≡ no_since
    → Under s (run_at g 0 g.machine) rows since
under_start s a g is rows since e l =
    subst (λ (z : Running). rows ≡ opened_rows z.machine → Under s (run_at z 0 z.machine) rows since) (sym is)
    (λ e. under_begun s a (opened_run s) refl rows since e (ap length l ∙ length_no_since)) e

-- an event e on the machine m, with the outcome o
module _ (s : List ℕ) (g : Running) (i : ℕ) (m : Machine) (rows since : List Row) (u : Under s (run_at g i m) rows since) (below : i < g.count) where
  abbrev z : Shape
  z = record { form = g.form; n = g.n; t = g.t }

  shape_now : z ≡ schedule_shape s
  shape_now = ap (λ (t : ℕ). record { form = g.form; n = g.n; t = t }) u.3 ∙ shape_at s g.form g.n u.2.form u.2.nodes

  -- the event's bytes lie within the schedule's
  pub under_fits : (known g.form ≡ true) × (event_place (record { form = g.form; n = g.n; t = g.t }) i + 6 ≤ length s)
  under_fits = event_lies s z i shape_now u.2.schedule (omega (arith, u.2.count))

  pub under_count : i < 4096
  under_count = omega (arith, u.2.count, (codec.schedule_taken s u.2.schedule).count)

  module _ (e : Event) (o : Acted) (is-e : e ≡ event_from s (event_place (record { form = g.form; n = g.n; t = g.t }) i)) (is-o : o ≡ event_at i m e) where
    abbrev further : Running
    further = record { t = g.t; n = g.n; form = g.form; count = g.count; place = i + 1; answer = o.answer; machine = o.machine; event = e; touch = o.touch }

    is : further ≡ forward_run s (run_at g i m)
    is = forward_is s (run_at g i m) z shape_now e o is-e is-o

    pub further_under : accepted o.answer ≡ true → (x y : List Row) → rowlaws.Behind rows since m e o x y → Under s (run_at g (i + 1) o.machine) x y
    further_under h x y q =
        let v = under_next s (run_at g i m) rows since u below further is h x y q in
        let r = v.2 in
        (v.0, v.1, record { schedule = r.schedule; nodes = r.nodes; form = r.form; count = r.count; machine = r.machine; taken = r.taken; come = r.come }, v.3)

    pub further_small : accepted o.answer ≡ true → Small o.machine
    further_small = going_on_small s (run_at g i m) rows since u.1 u.2.count below further is

    pub further_stop : accepted o.answer ≡ false → o.answer ≡ (ran s).answer
    further_stop = going_stop s (run_at g i m) rows since u.1 u.2.count below further is

    pub further_threads : accepted o.answer ≡ true → OfThreads o.touch
    further_threads a =
        let st = u.1.stands in
        let few : m.t ≤ 8 = subst (λ (x : Machine). x.t ≤ 8) (sym st.machine) st.known.threads in
        let taken : accepted (event_at i m e).answer ≡ true = ap (λ (x : Acted). accepted x.answer) (sym is-o) ∙ a in
        subst (λ (x : Acted). OfThreads x.touch) (sym is-o) (of_threads m (event_at i m e).touch few (flushing_event i m e taken) (fencing_event i m e taken))

-- a run that is refused
pub refused_run : (s : List ℕ) (r : Result Run Refusal) (x : Refusal) → IsErrAnd r (λ y. y ≡ x) → Err x ≡ (ran s).answer → RunIs s r
refused_run s (Ok v) x h e = absurd h
refused_run s (Err y) x h e = ap Err h ∙ e

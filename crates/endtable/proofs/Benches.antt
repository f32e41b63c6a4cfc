-- A run, event by event: what the code holds goes on standing for the bench.
use Prim.Native.Nat.{ℕ, suc, ◌≤◌, ◌<◌}
use mathlib.Core.Path.{◌≡◌, refl, sym, ap, subst, ◌∙◌}
use mathlib.Core.Bool.{true, false}
use mathlib.Core.List.{List, [], ◌∷◌}
use native.Mathlib.Omega.{arith}
use lib.ListN.{length, drop, drop_of_length-le}
use lib.Seq.{drop-cons}
use Rattle.lists.specs.Tab.{tab}
use Rattle.lists.proofs.BoolLaws.{yes_of, no_of}
use Rattle.lists.proofs.TabLaws as tabs
use Rattle.answer.specs.Answers.{accepted, Taken}
use Rattle.image.specs.declared.Content.{Content}
use Rattle.image.specs.Form.{head_lines}
use Rattle.image.specs.declared.Shape.{Shape}
use Rattle.image.specs.declared.Image.{Image}
use Rattle.image.proofs.HeadLaws.{lines_few}
use Rattle.machine.specs.Line.{shape_of, line_count, line_at, cached_at, persisted}
use Rattle.machine.specs.Start.{start_of}
use Rattle.machine.specs.Event.{crashes, deed_of, done, event_at}
use Rattle.machine.specs.declared.Acted.{Acted}
use Rattle.machine.specs.declared.Touch.{Touch}
use Rattle.machine.specs.declared.Machine.{Machine}
use Rattle.machine.specs.declared.Event.{Event}
use Rattle.schedule.specs.Run.{Bench, begins, goes_on, turned, forward, bench_at, and_before, run}
use Rattle.endtable.specs.Touched.{Touched, touched_row}
use Rattle.endtable.specs.Opened.{opened_table, opened_counts}
use Rattle.endtable.specs.Since.{since_after}
use Rattle.endtable.specs.Tables.{over_line, table_after, counts_after}
use Rattle.endtable.specs.declared.row.Row.{Row}
use Rattle.moments.specs.Frame.{Even, Frame}
use Rattle.endtable.specs.Benches.{Stands}
use Rattle.moments.proofs.Steps as events
use Rattle.moments.proofs.Known.{Known, known_start, known_event}
use Rattle.moments.proofs.Waiting.{came_event, fencing_event}
use Rattle.endtable.proofs.Flushing.{flushing_event}
use Rattle.endtable.proofs.TableLaws as tables
use Rattle.endtable.proofs.Sinces as sinces

-- ---- what the code holds

-- a start
pub stands_begin : (g : Image) (t : ℕ) → t ≤ 8 → g.n ≤ 64 → (since : List Row) → length since ≡ 8
    → Stands (begins (start_of g t)) (start_of g t) (opened_table (start_of g t) (line_count (shape_of (start_of g t)))) (opened_counts (start_of g t) (line_count (shape_of (start_of g t)))) since
stands_begin g t h n since e =
    let k = known_start g t h n in
    let few = lines_few (shape_of (start_of g t)) k.threads in
    record {
      machine = refl;
      small = k.nodes;
      few = few;
      known = k;
      tables = tables.tables_begin (start_of g t) k.nodes few;
      sinces = sinces.sinces_begin g t h since e;
    }

-- the machine is the bench's own
pub stands_now : (b : Bench) (m : Machine) (t : List (List Content)) (cs : List ℕ) (since : List Row) → Stands b m t cs since → Stands b b.machine t cs since
stands_now b m t cs since h = record { machine = refl; small = h.small; few = h.few; known = h.known; tables = h.tables; sinces = h.sinces }

module _ (p : ℕ) (b : Bench) (e : Event) (t : List (List Content)) (cs : List ℕ) (since : List Row) (h : Stands b b.machine t cs since)
    (taken : accepted (event_at p b.machine e).answer ≡ true) where
  abbrev m' : Machine
  m' = (event_at p b.machine e).machine

  abbrev touch : Touch
  touch = (event_at p b.machine e).touch

  -- the row that it changes, on a machine of this shape, and what it leaves in that line
  abbrev w' : Shape → Touched
  w' z = touched_row z touch

  abbrev c' : Shape → Content
  c' z = cached_at m' (line_at z (w' z).line)

  -- an event that is no crash
  module _ (k : Even b.machine) (ne : deed_of e.kind ≡ crashes → ⊥) where
    frame : Frame b.machine m' touch
    frame = events.frame_event p b.machine e taken ne

    goes : goes_on b m' touch ≡ forward p b e
    goes = sym (events.turned_on p b e taken ne)

    -- what stands for the bench x behind it, told with the shape z
    abbrev pub Standing : Bench → Shape → Type 0
    Standing x z =
        Stands x (event_at p b.machine e).machine (table_after t cs since (over_line b.machine (w' z)) (w' z) (c' z)) (counts_after t cs since (over_line b.machine (w' z)) (w' z) (c' z))
        (since_after z m'.threads since (w' z) (c' z))

    pub stands_event : Standing (forward p b e) (shape_of (event_at p b.machine e).machine)
    stands_event =
        subst (λ x. Standing x (shape_of m')) goes
        (subst (Standing (goes_on b m' touch))
        (sym frame.shape) (record {
          machine = refl;
          small = subst (λ (z : Shape). z.n ≤ 64) (sym frame.shape) h.small;
          few = subst (λ (z : Shape). head_lines z ≤ 8) (sym frame.shape) h.few;
          known = subst Known (sym goes) (known_event p b e h.known taken);
          tables =
              tables.tables_after b h.known h.small h.few k m' touch frame (events.there_event p b.machine e taken) (flushing_event p b.machine e taken)
              (fencing_event p b.machine e taken) t cs since h.tables h.sinces;
          sinces = sinces.sinces_after b h.known h.small h.few m' touch frame (came_event p b.machine e taken ne) since h.sinces;
        }))

  -- a crash is a start
  pub stands_crash : deed_of e.kind ≡ crashes
      → Stands (forward p b e) (event_at p b.machine e).machine (opened_table m' (line_count (shape_of m'))) (opened_counts m' (line_count (shape_of m'))) since
  stands_crash q =
      let o : event_at p b.machine e ≡ done b.machine e crashes = events.event_done p b.machine e taken ∙ ap (done b.machine e) q in
      let m : m' ≡ start_of (persisted b.machine) b.machine.t = ap (λ (o : Acted). o.machine) o in
      let f : forward p b e ≡ begins m' = ap (turned b (event_at p b.machine e)) q in
      subst (λ x. Stands x m' (opened_table m' (line_count (shape_of m'))) (opened_counts m' (line_count (shape_of m'))) since) (sym f)
      (subst (λ x. Stands (begins x) x (opened_table x (line_count (shape_of x))) (opened_counts x (line_count (shape_of x))) since) (sym m)
      (stands_begin (persisted b.machine) b.machine.t h.known.threads h.known.nodes since h.sinces.eight))

-- ---- the run

module _ (b : Bench) (f : ℕ → Event) (n i : ℕ) where
  events_from : i < n → drop i (tab f n) ≡ f i ∷ drop (suc i) (tab f n)
  events_from h =
      drop-cons (tab f n) i (f i) (omega (arith, tabs.length_tab f n)) ∙ ap (λ x. x ∷ drop (suc i) (tab f n)) (tabs.get_or_tab f n i (f i) h)

  -- a taken event
  pub run_on : i < n → accepted (event_at i (bench_at b f i).machine (f i)).answer ≡ true
      → run i (bench_at b f i) (drop i (tab f n))
      ≡ and_before (event_at i (bench_at b f i).machine (f i)).answer (run (suc i) (bench_at b f (suc i)) (drop (suc i) (tab f n)))
  unfolding run bench_at
  run_on h a = ap (run i (bench_at b f i)) (events_from h) ∙ yes_of _ _ (accepted (event_at i (bench_at b f i).machine (f i)).answer) a

  -- "The first refused event ends the run."
  pub run_refused : i < n → accepted (event_at i (bench_at b f i).machine (f i)).answer ≡ false
      → run i (bench_at b f i) (drop i (tab f n)) ≡ record { answer = (event_at i (bench_at b f i).machine (f i)).answer; replies = []; bench = bench_at b f i }
  unfolding run
  run_refused h a = ap (run i (bench_at b f i)) (events_from h) ∙ no_of _ _ (accepted (event_at i (bench_at b f i).machine (f i)).answer) a

  pub run_end : n ≤ i → run i (bench_at b f i) (drop i (tab f n)) ≡ record { answer = Taken; replies = []; bench = bench_at b f i }
  unfolding run
  run_end h = ap (run i (bench_at b f i)) (drop_of_length-le (tab f n) {i = i} (omega (arith, tabs.length_tab f n)))

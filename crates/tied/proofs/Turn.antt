-- An event that the record takes: the abstract machine takes it too, answers the same, and the benches show the same after it.
use mathlib.Core.Path.{◌≡◌, refl, sym, ap, subst, ◌∙◌}
use mathlib.Core.Bool.{true, false, not}
use Prim.Native.Nat.{ℕ, ◌<◌}
use native.Mathlib.Omega.{arith}
use native.Mathlib.Decide.{dec_lt}
use lib.Dec.{leb}
use borrow.Author.Tests.{not-false}
use Rattle.lists.proofs.BoolLaws.{no_way}
use Rattle.answer.specs.Answers.{accepted, Taken, Number, Busy, Idle, NotZero}
use Rattle.machine.specs.Record.{kept}
use Rattle.image.specs.Form.{head_lines}
use Rattle.image.specs.Layout.{image_shape}
use Rattle.machine.specs.Line.{shape_of, line_count, persisted}
use Rattle.tied.specs.Memory as memory
use Rattle.machine.specs.Stage as stage
use Rattle.machine.specs.Start.{start_of}
use Rattle.machine.specs.Event.{Deed, unknown, enqueues, dequeues, steps, writes_back, crashes, event_answer, thread_too_large, line_too_large, item_not_zero, done}
use Rattle.machine.specs.declared.Machine.{Machine}
use Rattle.machine.proofs.LineLaws as lines
use Rattle.machine.proofs.LineLaws.{LineIn}
use Rattle.machine.specs.declared.Event.{Event}
use Rattle.schedule.specs.Run as run
use Rattle.schedule.specs.Run.{turned}
use Rattle.moments.proofs.Steps.{frame_done}
use Rattle.moments.proofs.Waiting.{fencing_done}
use Rattle.moments.proofs.Known.{apart, known_done}
use Rattle.model.specs.Lines.{act, back, nowhere, flushes}
use Rattle.model.specs.Conf as model
use Rattle.model.specs.Conf.{Within}
use Rattle.model.specs.Core.{Core, busy}
use Rattle.model.specs.Steps.{enq, deq, move}
use Rattle.model.specs.Machine as machine
use Rattle.model.specs.Machine.{ev, crash, answer}
use Rattle.model.specs.Bench.{Bench, turn}
use Rattle.model.specs.Demand3.{Fit, Takes}
use Rattle.model.specs.Always.{InRange}
use Rattle.model.proofs.Basics.{le_true}
use Rattle.model.proofs.Demand3.Endings.{fit}
use Rattle.model.proofs.Demand3.ThreeB.{stays_put}
use Rattle.model.proofs.Page.Frame.{frame, conf_same}
use Rattle.model.proofs.Always.Runs.{turn_kept, kept_range}
use Rattle.tied.specs.Shown.{line_shown, event_by, answer_of}
use Rattle.tied.proofs.Engines.{lines_shown, own_agrees, own_lines}
use Rattle.tied.proofs.Changes.{persist_t, count_n, count_t, same_shape}
use Rattle.tied.proofs.Retiring.{busy_tied}
use Rattle.tied.proofs.Step.{step_t, enqueues_t, dequeues_t}
use Rattle.tied.proofs.Images.{ImageT}
use Rattle.tied.proofs.Accepted.{pass, fit_dummy}
use Rattle.tied.proofs.Bench.{own_kept, kept_flag, BenchT, goes_on_t, next_past}
use Rattle.tied.proofs.Past.{past_begins}
use Rattle.tied.proofs.Begins.{shape_is, started_t, begins_t}

pub lt_of : (a b : ℕ) → leb a b ≡ false → b < a
lt_of a b e = by (dec_lt b a)
  where
    by : Dec (b < a) → b < a
    by (yes h) = h
    by (no h) = no_way (sym (le_true a b (omega arith)) ∙ e)

module _ (b : run.Bench) (B : Bench) (r : BenchT b B) where
  abbrev m : Machine
  m = b.machine

  abbrev c : Core
  c = B.mach.core

  pub ranged : InRange c
  ranged = kept_range B r.kept

  -- the persisted copies, as an image, here and there
  pub persisted_t : ImageT (persisted m) m.t (machine.persisted B.mach)
  persisted_t = record {
    conf = r.tied.conf;
    sizes = r.tied.sizes;
    agrees = own_agrees (shape_of m);
    head = λ k h. ap (λ z. z.index) (r.lists.kept (memory.of_head k) (in_own k h));
    at = λ i h. r.lists.kept (memory.of_node i) h;
    flag = λ i h. (kept_flag _ m c r.tied (memory.of_node i) h).0;
    narrow_head = λ k h. r.tied.kept.narrow_head k (in_own k h);
    narrow = λ i h. r.tied.kept.narrow i h;
  }
    where
      in_own : (k : ℕ) → k < head_lines (image_shape (persisted m)) → k < head_lines (shape_of m)
      in_own k h = subst (λ x. k < x) (sym (own_lines (shape_of m))) h

  pub persisted_fit : Fit (machine.persisted B.mach)
  persisted_fit = fit _ _ _ _ _ _ r.kept.all (machine.persisted B.mach) (stays_put B.mach _ _ _ r.kept.all r.kept.timed)

  module _ (q : ℕ) (e : Event) where
    thread_in : thread_too_large m e ≡ false → e.number < m.t
    thread_in f = lt_of m.t e.number f

    -- the line that a write-back names
    abbrev line_of_lem : Event → memory.Line
    line_of_lem e = memory.line_at (shape_of m) e.number

    line_there : line_too_large m e ≡ false → LineIn (shape_of m) (line_of_lem e)
    line_there f = lines.line_in (shape_of m) e.number (lt_of (line_count (shape_of m)) e.number f)

    -- taken here, taken there
    pub takes : (δ : Deed) → accepted (event_answer q m e δ) ≡ true → Takes B.mach (event_by (shape_of m) δ e)
    takes unknown a = no_way (sym a)
    takes enqueues a =
        let x = pass (thread_too_large m e) (Number q) _ refl a in let y = pass (stage.busy m e.number) (Busy q) Taken refl x.1 in
        let h = thread_in x.0 in (omega (arith, count_t _ m c r.tied), busy_tied _ m c r.tied e.number h ∙ y.0)
    takes dequeues a =
        let x = pass (thread_too_large m e) (Number q) _ refl a in let z = pass (item_not_zero e) (NotZero q) _ refl x.1 in let y = pass (stage.busy m e.number) (Busy q) Taken refl z.1 in
        let h = thread_in x.0 in (omega (arith, count_t _ m c r.tied), busy_tied _ m c r.tied e.number h ∙ y.0)
    takes steps a =
        let x = pass (thread_too_large m e) (Number q) _ refl a in let z = pass (item_not_zero e) (NotZero q) _ refl x.1 in let y = pass (not (stage.busy m e.number)) (Idle q) Taken refl z.1 in
        let h = thread_in x.0 in (omega (arith, count_t _ m c r.tied), busy_tied _ m c r.tied e.number h ∙ not-false _ y.0)
    takes writes_back a = let x = pass (line_too_large m e) (Number q) _ refl a in by (line_of_lem e) (line_there x.0)
      where
        by : (l : memory.Line) → LineIn (shape_of m) l → Within c.conf (line_shown l)
        by (memory.of_head k) h = subst (λ z. k < model.head_lines z) (sym r.tied.conf) (subst (λ x. k < x) (sym (lines_shown m.form m.n m.t r.tied.sizes.form)) h)
        by (memory.of_node i) h = omega (arith, count_n _ m c r.tied)
    takes crashes a = tt

    -- and the same after it
    pub turns : (δ : Deed) → accepted (event_answer q m e δ) ≡ true → BenchT (turned b (done m e δ) δ) (turn B (event_by (shape_of m) δ e))
    turns unknown a = no_way (sym a)
    turns enqueues a =
        let x = pass (thread_too_large m e) (Number q) _ refl a in
        let h = thread_in x.0 in
        let d = enqueues_t _ m c r.tied ranged e.number h e.item in
        record {
          kept = turn_kept B (ev (act (enq e.number e.item))) r.kept (takes enqueues a);
          tied = own_kept _ _ _ d;
          lists = goes_on_t b B.mach _ _ memory.nothing nowhere r.lists r.kept.timed r.tied d refl (λ l ne. refl) tt r.known (fencing_done q m e enqueues a) (frame_done m e enqueues (apart enqueues refl));
          past = next_past b B.mach _ _ memory.nothing nowhere r.lists r.kept.timed r.tied d refl (λ l ne. refl) tt r.known (fencing_done q m e enqueues a) (frame_done m e enqueues (apart enqueues refl)) r.past;
          known = known_done q b e r.known enqueues a;
        }
    turns dequeues a =
        let x = pass (thread_too_large m e) (Number q) _ refl a in
        let h = thread_in x.0 in
        let d = dequeues_t _ m c r.tied ranged e.number h in
        record {
          kept = turn_kept B (ev (act (deq e.number))) r.kept (takes dequeues a);
          tied = own_kept _ _ _ d;
          lists = goes_on_t b B.mach _ _ memory.nothing nowhere r.lists r.kept.timed r.tied d refl (λ l ne. refl) tt r.known (fencing_done q m e dequeues a) (frame_done m e dequeues (apart dequeues refl));
          past = next_past b B.mach _ _ memory.nothing nowhere r.lists r.kept.timed r.tied d refl (λ l ne. refl) tt r.known (fencing_done q m e dequeues a) (frame_done m e dequeues (apart dequeues refl)) r.past;
          known = known_done q b e r.known dequeues a;
        }
    turns steps a =
        let x = pass (thread_too_large m e) (Number q) _ refl a in
        let h = thread_in x.0 in
        let s = step_t _ m c r.tied ranged e.number h in
        record {
          kept = turn_kept B (ev (act (move e.number))) r.kept (takes steps a);
          tied = own_kept _ _ _ s.tied;
          lists = goes_on_t b B.mach _ _ (done m e steps).touch _ r.lists r.kept.timed r.tied s.tied (conf_same c (move e.number)) (frame c (move e.number)) s.touch r.known (fencing_done q m e steps a) (frame_done m e steps (apart steps refl));
          past = next_past b B.mach _ _ (done m e steps).touch _ r.lists r.kept.timed r.tied s.tied (conf_same c (move e.number)) (frame c (move e.number)) s.touch r.known (fencing_done q m e steps a) (frame_done m e steps (apart steps refl)) r.past;
          known = known_done q b e r.known steps a;
        }
    turns writes_back a =
        let x = pass (line_too_large m e) (Number q) _ refl a in
        let d = persist_t _ m c r.tied (line_of_lem e) (line_there x.0) in
        record {
          kept = turn_kept B (ev (back (line_shown (line_of_lem e)))) r.kept (takes writes_back a);
          tied = own_kept _ _ _ d;
          lists = goes_on_t b B.mach c _ (memory.a_persist (line_of_lem e)) (flushes (line_shown (line_of_lem e))) r.lists r.kept.timed r.tied d refl (λ l ne. refl) refl r.known (fencing_done q m e writes_back a) (frame_done m e writes_back (apart writes_back refl));
          past = next_past b B.mach c _ (memory.a_persist (line_of_lem e)) (flushes (line_shown (line_of_lem e))) r.lists r.kept.timed r.tied d refl (λ l ne. refl) refl r.known (fencing_done q m e writes_back a) (frame_done m e writes_back (apart writes_back refl)) r.past;
          known = known_done q b e r.known writes_back a;
        }
    turns crashes a =
        let dm = fit_dummy (persisted m) m.t (machine.persisted B.mach) persisted_t persisted_fit in
        record {
          kept = turn_kept B crash r.kept tt;
          tied = started_t (persisted m) m.t (machine.persisted B.mach) persisted_t dm;
          lists = begins_t (persisted m) m.t (machine.persisted B.mach) persisted_t dm;
          past = past_begins (start_of (persisted m) m.t);
          known = known_done q b e r.known crashes a;
        }

    -- form, N and T stay
    pub turned_shape : (δ : Deed) → accepted (event_answer q m e δ) ≡ true → shape_of (turned b (done m e δ) δ).machine ≡ shape_of m
    turned_shape unknown a = no_way (sym a)
    turned_shape enqueues a = refl
    turned_shape dequeues a = refl
    turned_shape steps a =
        let x = pass (thread_too_large m e) (Number q) _ refl a in
        let s = step_t _ m c r.tied ranged e.number (thread_in x.0) in
        same_shape _ _ m _ c _ r.tied s.tied (conf_same c (move e.number))
    turned_shape writes_back a =
        let x = pass (line_too_large m e) (Number q) _ refl a in
        same_shape _ _ m _ c c r.tied (persist_t _ m c r.tied (line_of_lem e) (line_there x.0)) refl
    turned_shape crashes a = shape_is (persisted m) m.t

    pub answers_same : (δ : Deed) → accepted (event_answer q m e δ) ≡ true → (done m e δ).answer ≡ answer_of (answer B.mach (event_by (shape_of m) δ e))
    answers_same unknown a = no_way (sym a)
    answers_same enqueues a = refl
    answers_same dequeues a = refl
    answers_same steps a =
        let x = pass (thread_too_large m e) (Number q) _ refl a in
        (step_t _ m c r.tied ranged e.number (thread_in x.0)).says
    answers_same writes_back a = refl
    answers_same crashes a = refl

-- What is proved of every run of the record from an accepted start, whether or not its last event was refused. The proofs are one line each, from the files before.
use mathlib.Core.Path.{◌≡◌, refl, sym, ap, subst, ◌∙◌}
use mathlib.Core.Bool.{true}
use mathlib.Core.List.{List, map}
use mathlib.Core.Logic.{◌≢◌}
use Prim.Native.Nat.{ℕ, ◌<◌}
use Rattle.answer.specs.Answers.{told, accepted, Answer}
use Rattle.image.specs.declared.Content.{Content}
use Rattle.image.specs.declared.Image.{Image}
use Rattle.image.specs.declared.Shape.{Shape}
use Rattle.image.specs.Refusals.{startable}
use Rattle.machine.specs.Line.{shape_of, persisted}
use Rattle.machine.specs.declared.Line.{Line}
use Rattle.machine.proofs.LineLaws.{LineIn}
use Rattle.machine.specs.Start.{start_of, start_answer}
use Rattle.machine.specs.Range.{in_range}
use Rattle.machine.specs.declared.Machine.{Machine}
use Rattle.machine.specs.declared.Event.{Event}
use Rattle.schedule.specs.Run.{Ran, begins, run}
use Rattle.page.specs.Contents.{contents_of}
use Rattle.model.specs.Recovery as recovery
use Rattle.model.specs.Machine as machine
use Rattle.model.specs.Bench as model
use Rattle.model.specs.Demand3.{Fit, Tidy, TakesAll}
use Rattle.model.specs.Always.{Steady}
use Rattle.model.proofs.Always.Runs.{bench_run, conf_run}
use Rattle.model.proofs.Always.Steady.{always_steady}
use Rattle.tied.specs.Shown.{image_shown, Narrow, event_shown, answer_of, line_shown, shown_content}
use Rattle.tied.specs.Always.{Rises, Among, ExactlyOne, AddUp, WasThere}
use Rattle.tied.proofs.Accepted.{sound_is, shown_t, tidy, fit_of}
use Rattle.tied.proofs.Images.{ImageT}
use Rattle.tied.proofs.Bench.{BenchT}
use Rattle.tied.proofs.Begins.{shape_at, shape_is, started_t}
use Rattle.tied.proofs.Changes.{same_shape}
use Rattle.tied.proofs.Turn.{persisted_t}
use Rattle.tied.proofs.Refusals.{crash_starts}
use Rattle.tied.proofs.Run.{RunT, start_t, stop_number, bench_in_range, bench_rises}
use Rattle.tied.proofs.Sixes.{size_run, threads_run, exactly_one, add_up}

module _ (g : Image) (t : ℕ) (a : accepted (start_answer g t) ≡ true) (w : Narrow g) (q : ℕ) (l : List Event) where
  -- the run, its first event having number q
  abbrev R : Ran
  R = run q (begins (start_of g t)) l

  abbrev m : Machine
  m = R.bench.machine

  -- the image as the abstract machine has it: fit, and tidy
  abbrev G : recovery.Image
  G = image_shown g t

  pub fits : Fit G
  fits = fit_of g t G (shown_t g t (sound_is g t a) w) (sound_is g t a)

  pub tidies : Tidy G
  tidies = tidy g t (sound_is g t a) w

  -- the same run there
  abbrev Z : Shape
  Z = shape_at g t

  r : RunT Z q (model.opening G) l R
  r = start_t g t a w q l

  sizes : G.conf.nodes ≡ g.n
  unfolding image_shown
  sizes = refl

  desks : G.conf.threads ≡ t
  unfolding image_shown
  desks = refl

  -- ---- of the record alone

  -- 18 refuses no record of a run
  pub run_in_range : in_range m ≡ true
  run_in_range = bench_in_range _ _ (start_t g t a w q l).ends

  -- N and T stay
  pub run_size : m.n ≡ g.n
  run_size = sym (size_run G fits tidies (map (event_shown Z) r.taken) r.takes R.bench r.ends) ∙ sizes

  pub run_threads : m.t ≡ t
  run_threads = sym (threads_run G fits tidies (map (event_shown Z) r.taken) r.takes R.bench r.ends) ∙ desks

  pub run_shape : shape_of m ≡ Z
  run_shape = same_shape _ _ (start_of g t) m _ _ (started_t g t G (shown_t g t (sound_is g t a) w) (sound_is g t a).dummy) r.ends.tied
      (ap (λ (M : machine.M). M.core.conf) (bench_run (map (event_shown Z) r.taken) (model.opening G)) ∙ conf_run (map (event_shown Z) r.taken) (machine.starts G))
      ∙ shape_is g t

  -- no event is refused by 7 or 8, and a crash would not be either
  pub run_not_7_8 : ((told R.answer).number ≢ 7) × ((told R.answer).number ≢ 8)
  run_not_7_8 = stop_number Z q (model.opening G) l R r

  pub crash_not_7_8 : (rest : Answer) → startable (persisted m) rest ≡ rest
  crash_not_7_8 = crash_starts _ _ r.ends

  -- "At every moment each node is in exactly one place"; "the six numbers add up to N"
  pub run_one_place : (i : ℕ) → i < g.n → ExactlyOne m i
  run_one_place i h = exactly_one G fits tidies (map (event_shown Z) r.taken) r.takes R.bench r.ends i (subst (λ n. i < n) (sym run_size) h)

  pub run_adds_up : AddUp m
  run_adds_up = add_up G fits tidies (map (event_shown Z) r.taken) r.takes R.bench r.ends

  -- "the persisted copy is always some earlier or present content": that of the last start, or one cached since
  pub run_was_there : (k : Line) → LineIn Z k → WasThere R.bench k
  run_was_there k h = r.ends.past.was k (subst (λ z. LineIn z k) (sym run_shape) h)

  -- no head line falls
  pub run_rises : Rises R.bench
  run_rises = bench_rises _ _ r.ends (subst Steady (sym (bench_run (map (event_shown Z) r.taken) (model.opening G)))
      (always_steady G fits tidies (map (event_shown Z) r.taken) r.takes))

  -- ---- of the abstract machine's run of the same events, where none is refused

  module _ (all : accepted R.answer ≡ true) where
    abbrev L : List machine.Event
    L = map (event_shown Z) l

    whole : map (event_shown Z) r.taken ≡ L
    whole = ap (map (event_shown Z)) (r.all all)

    -- it takes them all
    pub run_takes : TakesAll (machine.starts G) L
    run_takes = subst (TakesAll (machine.starts G)) whole r.takes

    -- it answers the same
    pub run_replies : R.replies ≡ map answer_of (machine.answers (machine.starts G) L)
    run_replies = r.replies ∙ ap (λ l. map answer_of (machine.answers (machine.starts G) l)) whole

    -- what the two benches show in the end is the same, field by field
    pub run_ends : BenchT R.bench (model.bench (model.opening G) L)
    run_ends = subst (λ l. BenchT R.bench (model.bench (model.opening G) l)) whole r.ends

    -- each content of the record's is one of its contents
    pub run_contents : (k : Line) → LineIn Z k → (c : Content) → Among c (contents_of R.bench k)
        → machine.Has (model.bench (model.opening G) L).mach (line_shown k) (shown_content c)
    run_contents k h c z = (run_ends.lists.lists k (subst (λ z. LineIn z k) (sym run_shape) h) c z).1

    -- its persisted copies are the record's
    pub run_persisted : ImageT (persisted m) m.t (machine.persisted (model.bench (model.opening G) L).mach)
    run_persisted = persisted_t R.bench (model.bench (model.opening G) L) run_ends

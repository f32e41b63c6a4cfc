-- A run: its operations are those of the abstract machine's book, and its queue at the last start is the one kept there.
use mathlib.Core.Path.{◌≡◌, refl, sym, ap, subst, ◌∙◌}
use mathlib.Core.Bool.{true, false}
use mathlib.Core.List.{List, [], ◌∷◌, ◌++◌, map}
use Prim.Native.Nat.{ℕ, suc, ◌<◌}
use lib.ListN.{get_or}
use Rattle.lists.proofs.BoolLaws.{no_way}
use Rattle.answer.specs.Answers.{accepted}
use Rattle.image.specs.declared.Image.{Image}
use Rattle.machine.specs.Line.{shape_of, persisted}
use Rattle.machine.specs.Start.{start_of, start_answer, blank_machine}
use Rattle.machine.specs.Event as machine
use Rattle.machine.specs.Event.{Deed, unknown, enqueues, dequeues, steps, writes_back, crashes, deed_of, event_answer}
use Rattle.machine.specs.Record.{thread}
use Rattle.machine.specs.Stage.{stage, Stage, no_step, A1, A2, A3, A4, A5, A6, A7, A8, A9, A10, A11, A12, D1, D2, D3, D4, D5, D6, D7, S3, S6, F10, F3, F6}
use Rattle.machine.specs.declared.Thread.{Thread}
use Rattle.machine.specs.declared.Machine.{Machine}
use Rattle.machine.specs.declared.Event.{Event}
use Rattle.schedule.specs.Run as schedule
use Rattle.schedule.specs.Run.{Ran, run, begins, turned, and_before}
use Rattle.lawful.specs.Operation.{Operation, Reply, done, full, worn_out, empty, gave, says, puts, takes, answered_by, noted, operations}
use Rattle.lawful.specs.Plain.{queue_in}
use Rattle.model.specs.Core as core
use Rattle.model.specs.Core.{Core, Th, Ans, busy, acts, a1, d1}
use Rattle.model.specs.Steps.{step}
use Rattle.model.specs.Recovery.{start, start'}
use Rattle.model.specs.Machine as model
use Rattle.model.specs.Bench.{Bench, closes, note_move, turn, bench, opening}
use Rattle.model.proofs.Basics.{upd_same, upd_other}
use Rattle.tied.specs.Shown.{thread_of, image_shown, Narrow, answer_of, event_by, event_shown}
use Rattle.tied.proofs.Accepted.{sound_is, shown_t, fit_of}
use Rattle.tied.proofs.Begins.{shape_at, shape_is}
use Rattle.tied.proofs.Bench.{BenchT}
use Rattle.tied.proofs.Changes.{count_t}
use Rattle.tied.proofs.Turn as tied
use Rattle.tied.proofs.Run.{run_taken, first_taken, opens_t}
use Rattle.lawproof.proofs.Moves.{moved}
use Rattle.lawproof.proofs.Operations.{shown_reply, OpsT, empty_t, gone_t, begin_t, answer_t}
use Rattle.lawproof.proofs.Queues.{queue_shown}

pub record BookT (b : schedule.Bench) (B : Bench) (ops : List Operation) : Type 0 where
  pub book : OpsT ops B.book B.mach.core.thr
  pub first : queue_in (get_or b.past 0 blank_machine) ≡ B.first

-- all threads are idle after a start
start_idle : (m : model.M) (u : ℕ) → busy ((start (model.persisted m)).thr u) ≡ false
unfolding start'
start_idle m u = refl

-- no thread of the record is elsewhere
acts_of : (s : Stage) (v : Thread) (i : ℕ) → busy (thread_of s v i) ≡ true → acts (thread_of s v i) ≡ true
acts_of no_step v i b = b
acts_of A1 v i b = b
acts_of A2 v i b = b
acts_of A3 v i b = b
acts_of A4 v i b = b
acts_of A5 v i b = b
acts_of A6 v i b = b
acts_of A7 v i b = b
acts_of A8 v i b = b
acts_of A9 v i b = b
acts_of A10 v i b = b
acts_of A11 v i b = b
acts_of A12 v i b = b
acts_of D1 v i b = b
acts_of D2 v i b = b
acts_of D3 v i b = b
acts_of D4 v i b = b
acts_of D5 v i b = b
acts_of D6 v i b = b
acts_of D7 v i b = b
acts_of S3 v i b = b
acts_of S6 v i b = b
acts_of F10 v i b = b
acts_of F3 v i b = b
acts_of F6 v i b = b

-- ---- one event

module _ (b : schedule.Bench) (B : Bench) (r : BenchT b B) (ops : List Operation) (k : BookT b B ops) where
  abbrev m : Machine
  m = b.machine

  abbrev c : Core
  c = B.mach.core

  working : (u : ℕ) → busy (c.thr u) ≡ true → acts (c.thr u) ≡ true
  working u b =
      let h : u < m.t = subst (λ t. u < t) (count_t _ m c r.tied) (r.kept.all.inv.alive.range u b) in
      let e = (r.tied.threads.at u h).stage in
      ap acts e ∙ acts_of (stage m u) (thread m u) (r.tied.threads.at u h).seen (ap busy (sym e) ∙ b)

  lt : (u : ℕ) → busy (c.thr u) ≡ true → B.book.cur u < B.book.count
  lt u b = r.kept.all.curs.lt u (working u b)

  -- the moment of the last start stays the first
  first_on : (m' : Machine) → queue_in (get_or (b.past ++ (m' ∷ [])) 0 blank_machine) ≡ B.first
  first_on m' =
      let p = r.past.is in
      ap (λ (l : List Machine). queue_in (get_or (l ++ (m' ∷ [])) 0 blank_machine)) p
      ∙ sym (ap (λ (l : List Machine). queue_in (get_or l 0 blank_machine)) p) ∙ k.first

  module _ (e : Event) where
    abbrev t : ℕ
    t = e.number

    abbrev thr' : ℕ → Th
    thr' = (step c t (c.thr t)).core.thr

    -- a step, by its answer
    step_book : busy (c.thr t) ≡ true → (x : Ans) → (step c t (c.thr t)).ans ≡ x → OpsT (noted B.now e (answer_of x) ops steps) (note_move B.book B.now t x) thr'
    step_book bt = by
      where
        said : (a : Reply) → says a ≡ true → OpsT (map (answered_by B.now t a) ops) (closes B.book B.now t (shown_reply a)) thr'
        said a s = answer_t ops B.book c.thr thr' t k.book (moved c t (c.thr t) bt).others lt B.now a bt (r.kept.all.curs.pending t (working t bt)) s

        by : (x : Ans) → (step c t (c.thr t)).ans ≡ x → OpsT (noted B.now e (answer_of x) ops steps) (note_move B.book B.now t x) thr'
        by core.nothing f = gone_t ops B.book c.thr thr' t k.book (moved c t (c.thr t) bt).others lt bt ((moved c t (c.thr t) bt).stays f)
        by core.done f = said done refl
        by core.full f = said full refl
        by core.worn f = said worn_out refl
        by core.empty f = said empty refl
        by (core.item v) f = said (gave v) refl

    pub turn_book : (δ : Deed) → accepted (event_answer B.now m e δ) ≡ true
        → BookT (turned b (machine.done m e δ) δ) (turn B (event_by (shape_of m) δ e)) (noted B.now e (machine.done m e δ).answer ops δ)
    turn_book unknown a = no_way (sym a)
    turn_book enqueues a = record {
      book = begin_t ops B.book c.thr _ t k.book (λ u ne. upd_other c.thr t (a1 e.item) ne) lt B.now (puts e.item)
          (tied.takes b B r B.now e enqueues a).1 (ap busy (upd_same c.thr t (a1 e.item)));
      first = first_on _;
    }
    turn_book dequeues a = record {
      book = begin_t ops B.book c.thr _ t k.book (λ u ne. upd_other c.thr t d1 ne) lt B.now takes
          (tied.takes b B r B.now e dequeues a).1 (ap busy (upd_same c.thr t d1));
      first = first_on _;
    }
    turn_book steps a = record {
      book = subst (λ x. OpsT (noted B.now e x ops steps) (note_move B.book B.now t (step c t (c.thr t)).ans) thr')
          (sym (tied.answers_same b B r B.now e steps a)) (step_book (tied.takes b B r B.now e steps a).1 (step c t (c.thr t)).ans refl);
      first = first_on _;
    }
    turn_book writes_back a = record { book = k.book; first = first_on _ }
    turn_book crashes a = record {
      book = empty_t _ (start_idle B.mach);
      first = queue_shown (persisted m) m.t (model.persisted B.mach) (tied.persisted_t b B r) (tied.persisted_fit b B r);
    }

-- ---- the run; the number of its first event is the bench's

pub run_book : (l : List Event) (b : schedule.Bench) (B : Bench) → BenchT b B → (ops : List Operation) → BookT b B ops → accepted (run B.now b l).answer ≡ true
    → BookT (run B.now b l).bench (bench B (map (event_shown (shape_of b.machine)) l)) (operations B.now l (run B.now b l).replies ops)
unfolding run bench operations
run_book [] b B r ops k a = k
run_book (e ∷ l) b B r ops k a =
    subst (λ (R : Ran). BookT R.bench (bench B (map (event_shown (shape_of b.machine)) (e ∷ l))) (operations B.now (e ∷ l) R.replies ops)) (sym is)
    (subst (λ z. BookT (run (suc B.now) b' l).bench (bench (turn B (event_shown (shape_of b.machine) e)) (map (event_shown z) l))
    (operations (suc B.now) l (run (suc B.now) b' l).replies (noted B.now e (machine.done b.machine e (deed_of e.kind)).answer ops (deed_of e.kind))))
    (tied.turned_shape b B r B.now e (deed_of e.kind) f)
    (run_book l b' (turn B (event_shown (shape_of b.machine) e)) (tied.turns b B r B.now e (deed_of e.kind) f) _ (turn_book b B r ops k e (deed_of e.kind) f)
    (subst (λ (R : Ran). accepted R.answer ≡ true) is a)))
  where
    b' : schedule.Bench
    b' = turned b (machine.done b.machine e (deed_of e.kind)) (deed_of e.kind)

    f : accepted (event_answer B.now b.machine e (deed_of e.kind)) ≡ true
    f = first_taken B.now b e l a

    is : run B.now b (e ∷ l) ≡ and_before (machine.done b.machine e (deed_of e.kind)).answer
        (run (suc B.now) (turned b (machine.done b.machine e (deed_of e.kind)) (deed_of e.kind)) l)
    is = run_taken B.now b B r e l f

-- ---- from an accepted start

module _ (g : Image) (t : ℕ) (a : accepted (start_answer g t) ≡ true) (w : Narrow g) where
  opens_book : BookT (begins (start_of g t)) (opening (image_shown g t)) []
  unfolding start'
  opens_book =
      let s = sound_is g t a in
      let i = shown_t g t s w in
      record { book = empty_t _ (λ u. refl); first = queue_shown g t (image_shown g t) i (fit_of g t (image_shown g t) i s) }

  pub start_book : (l : List Event) → accepted (run 0 (begins (start_of g t)) l).answer ≡ true
      → BookT (run 0 (begins (start_of g t)) l).bench (bench (opening (image_shown g t)) (map (event_shown (shape_at g t)) l)) (operations 0 l (run 0 (begins (start_of g t)) l).replies [])
  start_book l h =
      subst (λ z. BookT (run 0 (begins (start_of g t)) l).bench (bench (opening (image_shown g t)) (map (event_shown z) l)) (operations 0 l (run 0 (begins (start_of g t)) l).replies []))
      (shape_is g t) (run_book l (begins (start_of g t)) (opening (image_shown g t)) (opens_t g t a w) [] opens_book h)

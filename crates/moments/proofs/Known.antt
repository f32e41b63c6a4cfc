-- From a start on, event by event: the bench is timed, its tables have their places, and the record's sets say what the moments say.
use Prim.Native.Nat.{ℕ, suc, ◌+◌, ◌-◌, ◌≤◌, ◌<◌}
use mathlib.Core.Path.{◌≡◌, refl, sym, ap, subst, ◌∙◌}
use mathlib.Core.Bool.{Bool, true, false}
use mathlib.Core.List.{List, [], ◌∷◌}
use mathlib.Core.Logic.{◌⊎◌, inl, inr}
use native.Mathlib.Omega.{arith}
use native.Mathlib.Decide.{dec_lt}
use lib.ListN.{length, get_or, length-replicate, get_or-eq_default}
use lib.Dec.{ltb}
use Rattle.lists.specs.Word.{has}
use Rattle.lists.proofs.BoolLaws.{false_true}
use Rattle.lists.proofs.TabLaws as tabs
use Rattle.lists.proofs.WordLaws.{has_zero}
use Rattle.answer.specs.Answers.{accepted}
use Rattle.image.specs.declared.Content.{Content}
use Rattle.image.specs.declared.Image.{Image}
use Rattle.image.specs.Form.{head_lines}
use Rattle.image.specs.Layout.{no_content, no_contents, no_heads, content_at, image_shape, head_in, heads_of}
use Rattle.image.proofs.HeadLaws.{lines_few}
use Rattle.machine.specs.Record.{thread, idle_thread, idle_threads, zero_thread, no_flushed, no_sets}
use Rattle.machine.specs.Line.{shape_of, persisted}
use Rattle.machine.specs.Start.{start_with, start_of, start_node}
use Rattle.machine.specs.Event.{Deed, unknown, enqueues, dequeues, steps, writes_back, crashes, deed_of, event_answer, done, event_at}
use Rattle.machine.specs.declared.Line.{Line}
use Rattle.machine.specs.declared.Machine.{Machine}
use Rattle.machine.specs.declared.Event.{Event}
use Rattle.machine.specs.declared.Thread.{Thread}
use Rattle.machine.proofs.FlushLaws as laws
use Rattle.machine.proofs.StartLaws as starts
use Rattle.schedule.specs.Layout.{schedule_in, events_in}
use Rattle.schedule.specs.declared.Schedule.{Schedule}
use Rattle.schedule.specs.Run.{Bench, Ran, begins, goes_on, turned, forward, and_before, run, opened, ran}
use Rattle.moments.specs.Moments.{Timed}
use Rattle.moments.specs.Marked.{Waits}
use Rattle.moments.proofs.Moments as moments
use Rattle.moments.proofs.Flushes.{Sized, sized_goes}
use Rattle.moments.proofs.Steps.{frame_done, event_done, event_answer_lem}
use Rattle.moments.proofs.Waiting.{came_done, fencing_done}
use Rattle.moments.proofs.Marked.{Marked, marked_goes}

pub record Known (b : Bench) : Type 0 where
  pub timed : Timed b
  pub sized : Sized b.machine
  pub marked : Marked b
  pub threads : b.machine.t ≤ 8
  pub nodes : b.machine.n ≤ 64

abbrev deed_number : Deed → ℕ
deed_number unknown = 0
deed_number enqueues = 1
deed_number dequeues = 2
deed_number steps = 3
deed_number writes_back = 4
deed_number crashes = 5

-- ---- a start

-- a table filled from the front is as long as it was
front_long : {A : Type 0} (f : ℕ → A) (n : ℕ) (l : List A) → length l ≤ length (Rattle.lists.specs.Tab.front f n l)
front_long f n l = omega (arith, tabs.front_length f n l)

module _ (g : Image) (t : ℕ) (few : t ≤ 8) (small : g.n ≤ 64) where
  sized_start : Sized (start_of g t)
  unfolding start_with no_flushed no_sets no_heads no_contents heads_of
  sized_start = record {
    flushed = omega (arith, few, length-replicate 8 no_content);
    heads = omega (arith, lines_few (shape_of (start_of g t)) few, front_long (head_in g) (head_lines (image_shape g)) no_heads, length-replicate {A = ℕ} 8 0);
    nodes = omega (arith, small, front_long (content_at g.nodes) g.n no_contents, length-replicate 64 no_content);
    over_heads = omega (arith, lines_few (shape_of (start_of g t)) few, length-replicate {A = ℕ} 8 0);
    over = omega (arith, small, length-replicate {A = ℕ} 64 0);
  }

  same_t : (start_of g t).t ≡ t
  same_t = (starts.sizes_are g t).1

  idle : (k : ℕ) (l : Line) → k < (start_of g t).t → Waits (start_of g t) k l → ⊥
  idle k l h w = omega (arith, w.0, ap (λ (v : Thread). v.step) (starts.thread_is g t k (omega (arith, h, few, same_t))))

  marked_start : Marked (begins (start_of g t))
  marked_start = record {
    late = λ u v hu hv. ap (λ x. has x v) (laws.start_late g t u) ∙ has_zero v;
    flushed = λ k l hk hl w. absurd (idle k l hk w);
    over = λ k l hk hl w. absurd (idle k l hk w);
    kept = λ l hl h. absurd (omega (arith, h));
  }

  pub known_start : Known (begins (start_of g t))
  known_start = record {
    timed = moments.timed_begins (start_of g t);
    sized = sized_start;
    marked = marked_start;
    threads = omega (arith, few, same_t);
    nodes = omega (arith, small, (starts.sizes_are g t).0);
  }

-- ---- an event

-- no other deed is a crash
pub apart : (d : Deed) → ltb (deed_number d) 5 ≡ true → d ≡ crashes → ⊥
apart d h e = let z : ltb (deed_number d) 5 ≡ false = ap (λ d. ltb (deed_number d) 5) e in false_true (sym z ∙ h)

module _ (p : ℕ) (b : Bench) (e : Event) (k : Known b) where
  goes : (d : Deed) → (d ≡ crashes → ⊥) → accepted (event_answer p b.machine e d) ≡ true
      → Known (goes_on b (done b.machine e d).machine (done b.machine e d).touch)
  goes d ne a =
      let m = b.machine in
      let f = frame_done m e d ne in
      record {
        timed = moments.timed_goes b (done m e d).machine (done m e d).touch k.timed;
        sized = sized_goes m (done m e d).machine (done m e d).touch f k.sized;
        marked = marked_goes b (done m e d).machine (done m e d).touch k.timed k.sized f (came_done m e d ne) (fencing_done p m e d a) k.marked;
        threads = omega (arith, k.threads, ap (λ z. z.t) f.shape);
        nodes = omega (arith, k.nodes, ap (λ z. z.n) f.shape);
      }

  -- a crash is a start
  pub known_done : (d : Deed) → accepted (event_answer p b.machine e d) ≡ true → Known (turned b (done b.machine e d) d)
  known_done unknown a = k
  known_done enqueues a = goes enqueues (apart enqueues refl) a
  known_done dequeues a = goes dequeues (apart dequeues refl) a
  known_done steps a = goes steps (apart steps refl) a
  known_done writes_back a = goes writes_back (apart writes_back refl) a
  known_done crashes a = known_start (persisted b.machine) b.machine.t k.threads k.nodes

  pub known_event : accepted (event_at p b.machine e).answer ≡ true → Known (forward p b e)
  known_event a =
      let d = deed_of e.kind in
      subst (λ o. Known (turned b o d)) (sym (event_done p b.machine e a)) (known_done d (event_answer_lem p b.machine e a))

-- ---- a run, to its end or to the first event that is refused

pub known_run : (l : List Event) (p : ℕ) (b : Bench) → Known b → Known (run p b l).bench
unfolding run
known_run [] p b k = k
known_run (e ∷ l) p b k = by (accepted (event_at p b.machine e).answer) refl (known_run l (suc p) (forward p b e))
  where
    by : (x : Bool) → accepted (event_at p b.machine e).answer ≡ x → (Known (forward p b e) → Known (run (suc p) (forward p b e) l).bench)
        → Known (elim x as (λ _. Ran) [
          | true ↦ and_before (event_at p b.machine e).answer (run (suc p) (forward p b e) l)
          | false ↦ record { answer = (event_at p b.machine e).answer; replies = []; bench = b }
        ]).bench
    by true a rec = rec (known_event p b e k a)
    by false a rec = k

-- a schedule's, with T and N as acceptance has them
pub known_ran : (s : List ℕ) → (schedule_in s).t ≤ 8 → (schedule_in s).image.n ≤ 64 → Known (ran s).bench
unfolding ran
known_ran s few small = known_run (events_in s) 0 (opened (schedule_in s)) (known_start (schedule_in s).image (schedule_in s).t few small)

-- How far a run has come: the first i of the events f 0, f 1, .. were taken, one after the other.
use Prim.Native.Nat.{ℕ, suc, ◌+◌}
use mathlib.Core.Path.{◌≡◌, refl, sym, ap, ap₂, ◌∙◌}
use mathlib.Core.Bool.{Bool, true, false}
use mathlib.Core.List.{List, [], ◌∷◌, ◌++◌}
use native.Mathlib.Omega.{arith}
use lib.ListN.{length}
use Rattle.lists.specs.Tab.{tab}
use Rattle.lists.proofs.BoolLaws.{yes_of}
use Rattle.lists.proofs.TabLaws as tabs
use Rattle.answer.specs.Answers.{accepted, Answer, Taken}
use Rattle.machine.specs.Event.{Deed, unknown, enqueues, dequeues, steps, writes_back, crashes, deed_of, done, event_at}
use Rattle.machine.specs.declared.Event.{Event}
use Rattle.machine.specs.declared.Acted.{Acted}
use Rattle.schedule.specs.Run.{Bench, Ran, turned, forward, bench_at, and_before, run}
use Rattle.pageproof.proofs.Events.{taken_is}
use Rattle.pageproof.proofs.Runs as runs

-- what event i answers, where those before it were taken
abbrev pub reply_in : Bench → (ℕ → Event) → ℕ → Answer
reply_in b f i = (event_at i (bench_at b f i).machine (f i)).answer

pub record Come (b : Bench) (f : ℕ → Event) (i : ℕ) : Type 0 where
  pub taken : accepted (run 0 b (tab f i)).answer ≡ true
  pub come : (run 0 b (tab f i)).bench ≡ bench_at b f i

one_more : (q : ℕ) (b : Bench) (e : Event) → accepted (event_at q b.machine e).answer ≡ true
    → run q b (e ∷ []) ≡ and_before (event_at q b.machine e).answer (record { answer = Taken; replies = []; bench = forward q b e })
unfolding run
one_more q b e h = yes_of _ _ (accepted (event_at q b.machine e).answer) h

-- the bench goes on with the machine that the event left
forward_machine : (p : ℕ) (b : Bench) (e : Event) → accepted (event_at p b.machine e).answer ≡ true → (forward p b e).machine ≡ (event_at p b.machine e).machine
forward_machine p b e h = by (deed_of e.kind) refl
  where
    by : (d : Deed) → deed_of e.kind ≡ d → (turned b (event_at p b.machine e) d).machine ≡ (event_at p b.machine e).machine
    by unknown q = sym (ap (λ (o : Acted). o.machine) (taken_is p b.machine e h) ∙ ap (λ (d : Deed). (done b.machine e d).machine) q)
    by enqueues q = refl
    by dequeues q = refl
    by steps q = refl
    by writes_back q = refl
    by crashes q = refl

module _ (b₀ : Bench) (f : ℕ → Event) where
  pub come_none : Come b₀ f 0
  unfolding bench_at tab run
  come_none = record { taken = refl; come = refl }

  -- the run's answers so far are those of its events
  abbrev pub Answers : ℕ → Type 0
  Answers i = (run 0 b₀ (tab f i)).replies ≡ tab (reply_in b₀ f) i

  pub answers_none : Answers 0
  unfolding tab run
  answers_none = refl

  module _ (i : ℕ) (c : Come b₀ f i) (a : accepted (reply_in b₀ f i) ≡ true) where
    more : run 0 b₀ (tab f (suc i)) ≡ runs.and_after (run 0 b₀ (tab f i)) (and_before (reply_in b₀ f i) (record { answer = Taken; replies = []; bench = forward i (bench_at b₀ f i) (f i) }))
    unfolding tab
    more =
        runs.run_append (tab f i) (f i ∷ []) 0 b₀ c.taken
        ∙ ap (runs.and_after (run 0 b₀ (tab f i)))
        (ap₂ (λ (q : ℕ) (x : Bench). run q x (f i ∷ [])) (let z : 0 + length (tab f i) ≡ i = omega (arith, tabs.length_tab f i) in z) c.come ∙ one_more i (bench_at b₀ f i) (f i) a)

    pub come_next : Come b₀ f (suc i)
    unfolding bench_at
    come_next = record {
      taken = ap (λ (x : Ran). accepted x.answer) more;
      come = ap (λ (x : Ran). x.bench) more;
    }

    pub answers_next : Answers i → Answers (suc i)
    unfolding tab
    answers_next e = ap (λ (x : Ran). x.replies) more ∙ ap (λ (l : List Answer). l ++ (reply_in b₀ f i ∷ [])) e

    pub next_machine : (bench_at b₀ f (suc i)).machine ≡ (event_at i (bench_at b₀ f i).machine (f i)).machine
    unfolding bench_at
    next_machine = forward_machine i (bench_at b₀ f i) (f i) a

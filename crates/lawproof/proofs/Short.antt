-- A start leaves a node over for the dummy, so its queue has at most 63 items: the queue at the last start of a run, and that of each ending.
use mathlib.Core.Path.{◌≡◌, refl, sym, ap, subst, ◌∙◌}
use mathlib.Core.Bool.{Bool, true, false}
use mathlib.Core.List.{List, [], ◌∷◌, map}
use Prim.Native.Nat.{ℕ, zero, suc, ◌≤◌, ◌<◌}
use native.Mathlib.Omega.{arith}
use native.Mathlib.Decide.{ℕ_discrete}
use lib.Dec.{ltb}
use lib.ListN.{length, get_or, length-map}
use Rattle.lists.proofs.BoolLaws.{no_way}
use Rattle.answer.specs.Answers.{accepted}
use Rattle.image.specs.declared.Image.{Image}
use Rattle.image.specs.Layout.{content_at}
use Rattle.image.specs.Recovered.{recovered_at, dummy_of}
use Rattle.machine.specs.Start.{risen, queue_of, start_of, start_answer, blank_machine}
use Rattle.machine.proofs.AcceptedLaws.{accepted_start, dummy_spare}
use Rattle.machine.proofs.QueueLaws.{length_insert, length_risen, risen_next, risen_same}
use Rattle.machine.specs.declared.Event.{Event}
use Rattle.schedule.specs.Run.{Ran, run, begins}
use Rattle.lawful.specs.Plain.{queue_in}
use Rattle.model.specs.Core as core
use Rattle.model.specs.Recovery as recovery
use Rattle.model.specs.Lines.{act, back}
use Rattle.model.specs.Steps.{enq, deq, move}
use Rattle.model.specs.Machine as machine
use Rattle.model.specs.Bench.{Bench, turn, bench, opening}
use Rattle.model.specs.Demand3.{Fit, Tidy, Takes, TakesAll}
use Rattle.model.proofs.Demand3.Endings.{fit}
use Rattle.model.proofs.Demand3.ThreeB.{stays_put}
use Rattle.model.proofs.Always.Runs.{Kept, open_kept, turn_kept, conf_event, conf_starts, conf_run, bench_run}
use Rattle.tied.specs.Shown.{image_shown, Narrow, event_shown}
use Rattle.tied.proofs.Begins.{shape_at}
use Rattle.tied.proofs.Statements.{fits, tidies, run_takes}
use Rattle.lawproof.proofs.Walk.{queue_start}
use Rattle.lawproof.proofs.Books.{BookT, start_book}

-- ---- a start of accepted contents

risen_short : (g : Image) (k i : ℕ) → i < k → recovered_at g i ≡ false → length (risen g k) < k
risen_short g zero i h e = absurd (omega arith)
risen_short g (suc k) i h e = by (recovered_at g k) refl (λ l. risen_short g k i l e)
  where
    by : (b : Bool) → recovered_at g k ≡ b → (i < k → length (risen g k) < k) → length (risen g (suc k)) < suc k
    by false f rest = omega (arith, ap length (risen_same g k f), length_risen g k)
    by true f rest =
        let l : i < k = below (ℕ_discrete i k) in
        omega (arith, ap length (risen_next g k f), length_insert g.nodes k (risen g k), rest l)
      where
        below : Dec (i ≡ k) → i < k
        below (yes z) = no_way (sym f ∙ ap (recovered_at g) (sym z) ∙ e)
        below (no z) = omega arith

pub start_short : (g : Image) (t : ℕ) → accepted (start_answer g t) ≡ true → length (queue_in (start_of g t)) ≤ 63
start_short g t a =
    let c = accepted_start g t a in
    omega (
      arith,
      ap length (queue_start g t a),
      length-map (queue_of g) (λ i. (content_at g.nodes i).item),
      risen_short g g.n (dummy_of g) c.dummy (dummy_spare g c.dummy),
      c.nodes.1,
    )

-- ---- the queue at the last start of a run

length_joins : (f : ℕ → core.Node) (n : ℕ) (l : List ℕ) → length (recovery.insert f n l) ≡ suc (length l)
unfolding recovery.insert
length_joins f n [] = refl
length_joins f n (k ∷ l) = by (ltb (f n).index (f k).index) (length_joins f n l)
  where
    by : (b : Bool) → length (recovery.insert f n l) ≡ suc (length l)
        → length {A = ℕ} (elim b as (λ _. List ℕ) [ true ↦ n ∷ k ∷ l | false ↦ k ∷ recovery.insert f n l ]) ≡ suc (suc (length l))
    by true h = refl
    by false h = ap suc h

module _ (f : ℕ → core.Node) (h : ℕ) where
  abbrev grown : Bool → ℕ → List ℕ
  grown b k = elim b as (λ _. List ℕ) [ true ↦ recovery.insert f k (recovery.queue_of f h k) | false ↦ recovery.queue_of f h k ]

  queue_le : (k : ℕ) → length (recovery.queue_of f h k) ≤ k
  unfolding recovery.queue_of
  queue_le zero = omega arith
  queue_le (suc k) = by (recovery.recovered h (f k)) (queue_le k)
    where
      by : (b : Bool) → length (recovery.queue_of f h k) ≤ k → length (grown b k) ≤ suc k
      by true l = omega (arith, length_joins f k (recovery.queue_of f h k))
      by false l = omega arith

  queue_lt : (k n : ℕ) → n < k → recovery.recovered h (f n) ≡ false → length (recovery.queue_of f h k) < k
  unfolding recovery.queue_of
  queue_lt zero n l e = absurd (omega arith)
  queue_lt (suc k) n l e = by (recovery.recovered h (f k)) refl (ℕ_discrete n k) (λ m. queue_lt k n m e)
    where
      by : (b : Bool) → recovery.recovered h (f k) ≡ b → Dec (n ≡ k) → (n < k → length (recovery.queue_of f h k) < k) → length (grown b k) < suc k
      by true c (yes z) rest = no_way (sym c ∙ ap (λ i. recovery.recovered h (f i)) (sym z) ∙ e)
      by true c (no z) rest = omega (arith, length_joins f k (recovery.queue_of f h k), rest (omega arith))
      by false c d rest = omega (arith, queue_le k)

items_short : (g : recovery.Image) → Fit g → length (recovery.items_of g) < g.conf.nodes
unfolding recovery.items_of
items_short g f =
    let (n, l, e) = f.spare in
    omega (
      arith,
      length-map (recovery.queue_of g.at (recovery.head_of g) g.conf.nodes) (λ n. (g.at n).item),
      queue_lt g.at (recovery.head_of g) g.conf.nodes n l e,
    )

abbrev Short : Bench → Type 0
Short b = length b.first < b.mach.core.conf.nodes

turn_short : (b : Bench) (e : machine.Event) → Kept b → Short b → Short (turn b e)
turn_short b e k s = subst (λ (c : _). length (turn b e).first < c.nodes) (sym (conf_event b.mach e)) (by e)
  where
    by : (e : machine.Event) → length (turn b e).first < b.mach.core.conf.nodes
    by (machine.ev (act (enq t v))) = s
    by (machine.ev (act (deq t))) = s
    by (machine.ev (act (move t))) = s
    by (machine.ev (back l)) = s
    by machine.crash = items_short (machine.persisted b.mach) (fit _ _ _ _ _ _ k.all (machine.persisted b.mach) (stays_put b.mach _ _ _ k.all k.timed))

bench_short : (b : Bench) (l : List machine.Event) → Kept b → TakesAll b.mach l → Short b → Short (bench b l)
unfolding bench
bench_short b [] k t s = s
bench_short b (e ∷ l) k t s = bench_short (turn b e) l (turn_kept b e k t.0) t.1 (turn_short b e k s)

module _ (g : Image) (t : ℕ) (a : accepted (start_answer g t) ≡ true) (w : Narrow g) (l : List Event) (all : accepted (run 0 (begins (start_of g t)) l).answer ≡ true) where
  abbrev G : recovery.Image
  G = image_shown g t

  abbrev L : List machine.Event
  L = map (event_shown (shape_at g t)) l

  opened_short : Short (opening G)
  opened_short = subst (λ (c : _). length (recovery.items_of G) < c.nodes) (sym (conf_starts G)) (items_short G (fits g t a w 0 l))

  nodes_is : (bench (opening G) L).mach.core.conf.nodes ≡ g.n
  unfolding image_shown
  nodes_is = ap (λ (m : machine.M). m.core.conf.nodes) (bench_run L (opening G)) ∙ ap (λ (c : _). c.nodes) (conf_run L (machine.starts G) ∙ conf_starts G)

  pub first_short : length (queue_in (get_or (run 0 (begins (start_of g t)) l).bench.past 0 blank_machine)) ≤ 63
  first_short =
      let s = bench_short (opening G) L (open_kept G (fits g t a w 0 l) (tidies g t a w 0 l)) (run_takes g t a w 0 l all) opened_short in
      omega (arith, ap length (start_book g t a w l all).first, s, nodes_is, (accepted_start g t a).nodes.1)

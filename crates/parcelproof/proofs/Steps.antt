-- What a step of the record tells the desk is what the abstract machine's step tells.
use Prim.Native.Nat.{ℕ, ◌<◌}
use mathlib.Core.Path.{◌≡◌, refl, sym, ap, ap₂, subst, ◌∙◌}
use mathlib.Core.Bool.{Bool, true, false}
use mathlib.Core.List.{List, [], ◌∷◌, map}
use mathlib.Core.Logic.{◌≢◌}
use mathlib.Core.Option.{Option}
use native.Mathlib.Omega.{arith}
use native.Mathlib.Decide.{dec_lt}
use lib.Dec.{eqb, leb}
use borrow.Author.Tests.{lt-ltb, lt-leb}
use Rattle.lists.specs.Find.{pick, both}
use Rattle.lists.proofs.BoolLaws.{no_way}
use Rattle.answer.specs.Answers.{accepted, Answer, Taken, Item}
use Rattle.image.specs.Form.{per_desk}
use Rattle.image.specs.declared.Shape.{Shape}
use Rattle.machine.specs.Record.{node, thread, zero_node, zero_thread}
use Rattle.machine.specs.Line.{shape_of}
use Rattle.machine.specs.Stage.{Stage, no_step, A1, A2, A3, A4, A5, A6, A7, A8, A9, A10, A11, A12, D1, D2, D3, D4, D5, D6, D7, S3, S6, F10, F3, F6, stage_of, number}
use Rattle.machine.specs.Event.{steps, event_answer, done}
use Rattle.machine.specs.declared.Machine.{Machine}
use Rattle.machine.specs.declared.Thread.{Thread}
use Rattle.machine.specs.declared.Event.{Event}
use Rattle.machine.specs.declared.Acted.{Acted}
use Rattle.machine.proofs.StageLaws.{number_stage}
use Rattle.schedule.specs.Run as schedule
use Rattle.model.specs.Core.{Core, Th, Node, content, idle, a1, a2, a3, a4, a5, a6, a7, a8, a9, a10, a10f, a11, a12, d1, d2, d3, d3f, d4, d5, d6, d6f, d7, s3, s6, elsewhere}
use Rattle.model.specs.Core as core
use Rattle.model.specs.Core.{Ans}
use Rattle.model.specs.Basics.{upd}
use Rattle.model.specs.Steps.{step}
use Rattle.model.specs.Bench.{Bench, turn}
use Rattle.model.proofs.Basics.{upd_same}
use Rattle.tied.specs.Shown.{thread_of, answer_of, event_by}
use Rattle.tied.proofs.Relation.{step_in, ThreadAt}
use Rattle.tied.proofs.Bench.{BenchT}
use Rattle.tied.proofs.Changes.{count_n, count_t}
use Rattle.tied.proofs.Turn.{takes, turns, turned_shape, answers_same, ranged}
use Rattle.parcels.specs.Parcel as parcel
use Rattle.parcels.specs.Parcel.{thread_at, node_at, is_open, said_news, news_of, moved}
use Rattle.parcels.specs.declared.News.{News}
use Rattle.parcels.specs.declared.News.TheVariants.{Linked, Answered, Took}
use Rattle.parcels.specs.declared.Parcel.{Parcel}
use Rattle.parcelproof.proofs.Taken.{heard}
use Rattle.parcelproof.proofs.Went.{gives, pace, links_to, takes_to, Went, quiet, linked, took, said, gave, went}
use Rattle.parcelproof.proofs.Held.{Held}
use Rattle.parcelproof.proofs.Moves.{held_quiet, held_said, held_gave, held_linked, held_took}

-- all of a list
abbrev pub Each : (Parcel → Type 0) → List Parcel → Type 0
Each P [] = Unit {0}
Each P (p ∷ l) = P p × Each P l

pub each_map : (P Q : Parcel → Type 0) (f : Parcel → Parcel) → ((p : Parcel) → P p → Q (f p)) → (l : List Parcel) → Each P l → Each Q (map f l)
each_map P Q f h [] a = tt
each_map P Q f h (p ∷ l) a = (h p a.0, each_map P Q f h l a.1)

-- ---- a thread of the record and of the core

pace_of : (z : Stage) (v : Thread) (i : ℕ) → pace (thread_of z v i) ≡ number z
pace_of no_step v i = refl
pace_of A1 v i = refl
pace_of A2 v i = refl
pace_of A3 v i = refl
pace_of A4 v i = refl
pace_of A5 v i = refl
pace_of A6 v i = refl
pace_of A7 v i = refl
pace_of A8 v i = refl
pace_of A9 v i = refl
pace_of A10 v i = refl
pace_of A11 v i = refl
pace_of A12 v i = refl
pace_of D1 v i = refl
pace_of D2 v i = refl
pace_of D3 v i = refl
pace_of D4 v i = refl
pace_of D5 v i = refl
pace_of D6 v i = refl
pace_of D7 v i = refl
pace_of S3 v i = refl
pace_of S6 v i = refl
pace_of F10 v i = refl
pace_of F3 v i = refl
pace_of F6 v i = refl

step_few : (f s : ℕ) → step_in f s ≡ true → s < 25
step_few f s h = by (dec_lt s 25)
  where
    by : Dec (s < 25) → s < 25
    by (yes l) = l
    by (no l) = no_way (sym h ∙ ap (λ (b : Bool). pick b true (pick (leb s 21) (per_desk f) (leb s 24))) (lt-leb s 19 (omega arith))
        ∙ ap (λ (b : Bool). pick b (per_desk f) (leb s 24)) (lt-leb s 21 (omega arith)) ∙ lt-leb s 24 (omega arith))

pace_is : (f n : ℕ) (v : Thread) (s : Th) (o : Option ℕ) → ThreadAt f n v s o → v.step ≡ pace s
pace_is f n v s o a = sym (ap pace a.stage ∙ pace_of (stage_of v.step) v a.seen ∙ number_stage v.step (step_few f v.step a.regs.step))

-- its own node before A8, the next that it has read before D4
abbrev own_of : Th → ℕ
own_of idle = 0
own_of (a1 v) = 0
own_of (a2 v n) = 0
own_of (a3 v n) = 0
own_of (a4 v n) = 0
own_of (a5 v n) = 0
own_of (a6 v n q) = 0
own_of (a7 v n q) = 0
own_of (a8 v n q) = n
own_of (a9 v n q) = 0
own_of (a10 v n q) = 0
own_of (a10f v n q) = 0
own_of (a11 v n q) = 0
own_of (a12 v n q) = 0
own_of d1 = 0
own_of elsewhere = 0
own_of (d2 h i) = 0
own_of (d3 h i) = 0
own_of (d3f h i) = 0
own_of (s3 h i) = 0
own_of (d4 h i q) = 0
own_of (d5 h y) = 0
own_of (d6 h v) = 0
own_of (d6f h v) = 0
own_of (s6 h y v) = 0
own_of (d7 h v) = 0

abbrev next_of : Th → ℕ
next_of idle = 0
next_of (a1 v) = 0
next_of (a2 v n) = 0
next_of (a3 v n) = 0
next_of (a4 v n) = 0
next_of (a5 v n) = 0
next_of (a6 v n q) = 0
next_of (a7 v n q) = 0
next_of (a8 v n q) = 0
next_of (a9 v n q) = 0
next_of (a10 v n q) = 0
next_of (a10f v n q) = 0
next_of (a11 v n q) = 0
next_of (a12 v n q) = 0
next_of d1 = 0
next_of elsewhere = 0
next_of (d2 h i) = 0
next_of (d3 h i) = 0
next_of (d3f h i) = 0
next_of (s3 h i) = 0
next_of (d4 h i q) = q
next_of (d5 h y) = 0
next_of (d6 h v) = 0
next_of (d6f h v) = 0
next_of (s6 h y v) = 0
next_of (d7 h v) = 0

said_is : (t : ℕ) (a : Ans) → is_open (heard a) ≡ false → gives a ≡ false → said_news t (answer_of a) ≡ Answered t (heard a)
said_is t core.nothing e f = no_way e
said_is t core.done e f = refl
said_is t core.full e f = refl
said_is t core.worn e f = refl
said_is t core.empty e f = refl
said_is t (core.item v) e f = no_way f

module _ (b : schedule.Bench) (B : Bench) (r : BenchT b B) (q : ℕ) (e : Event) (a : accepted (event_answer q b.machine e steps) ≡ true) where
  abbrev m : Machine
  m = b.machine

  abbrev c : Core
  c = B.mach.core

  abbrev t : ℕ
  t = e.number

  abbrev o : Acted
  o = done m e steps

  abbrev B' : Bench
  B' = turn B (event_by (shape_of m) steps e)

  abbrev c' : Core
  c' = B'.mach.core

  r' : BenchT (schedule.turned b o steps) B'
  r' = turns b B r q e steps a

  t_in : t < m.t
  t_in = omega (arith, (takes b B r q e steps a).0, count_t _ m c r.tied)

  t_in' : t < o.machine.t
  t_in' = subst (λ (z : Shape). t < z.t) (sym (turned_shape b B r q e steps a)) t_in

  t_few : t < 8
  t_few = omega (arith, t_in, r.tied.sizes.threads_hi)

  thread_is : (m : Machine) → thread_at m t ≡ thread m t
  thread_is m = ap (λ (x : Bool). pick x (thread m t) zero_thread) (lt-ltb t 8 t_few)

  pace₀ : (thread_at m t).step ≡ pace (c.thr t)
  pace₀ = ap (λ (v : Thread). v.step) (thread_is m) ∙ pace_is m.form m.n (thread m t) (c.thr t) _ (r.tied.threads.at t t_in)

  pace₁ : (thread_at o.machine t).step ≡ pace (c'.thr t)
  pace₁ = ap (λ (v : Thread). v.step) (thread_is o.machine) ∙ pace_is o.machine.form o.machine.n (thread o.machine t) (c'.thr t) _ (r'.tied.threads.at t t_in')

  abbrev link_news : News
  link_news = Linked t (thread_at m t).node (node_at m (thread_at m t).node).index

  abbrev take_news : News
  take_news = Took t (node_at m (thread_at m t).next).index

  -- with the thread at s' after it, and the answer n
  news_is : (s' : Th) → c'.thr t ≡ s' → (x y : Bool) (n : Answer) → links_to (c.thr t) s' ≡ x → takes_to (c.thr t) s' ≡ y → answer_of (step c t (c.thr t)).ans ≡ n
      → news_of m t o.answer o.machine ≡ pick x link_news (pick y take_news (said_news t n))
  unfolding news_of
  news_is s' f x y n ex ey en =
      ap (λ (z : Bool). pick z link_news (pick (parcel.takes m o.machine t) take_news (said_news t o.answer)))
      (ap₂ (λ (i j : ℕ). both (eqb i 8) (eqb j 9)) pace₀ (pace₁ ∙ ap pace f) ∙ ex)
      ∙ ap (λ (z : Bool). pick x link_news (pick z take_news (said_news t o.answer)))
      (ap₂ (λ (i j : ℕ). both (eqb i 16) (eqb j 17)) pace₀ (pace₁ ∙ ap pace f) ∙ ey)
      ∙ ap (λ (n : Answer). pick x link_news (pick y take_news (said_news t n))) (answers_same b B r q e steps a ∙ en)

  -- what the thread has read
  reads : (z : Stage) → number z ≡ pace (c.thr t) → stage_of (number z) ≡ z → c.thr t ≡ thread_of z (thread_at m t) (r.tied.threads.at t t_in).seen
  reads z f g =
      let w = r.tied.threads.at t t_in in
      let k : stage_of (thread m t).step ≡ z = ap stage_of (ap (λ (v : Thread). v.step) (sym (thread_is m)) ∙ pace₀ ∙ sym f) ∙ g in
      w.stage ∙ ap (λ (z : Stage). thread_of z (thread m t) w.seen) k ∙ ap (λ (v : Thread). thread_of z v w.seen) (sym (thread_is m))

  node_few : (i : ℕ) → i < c.conf.nodes → i < m.n
  node_few i h = omega (arith, count_n _ m c r.tied)

  index_is : (i : ℕ) → i < c.conf.nodes → (node_at m i).index ≡ (c.node i).index
  index_is i h =
      ap (λ (x : Bool). (pick x (node m i) zero_node).index) (lt-ltb i 64 (omega (arith, node_few i h, r.tied.sizes.nodes_hi)))
      ∙ sym (ap (λ (v : Node). v.index) (r.tied.nodes.at i (node_few i h)).content)

  abbrev Goes : News → Type 0
  Goes w = (p : Parcel) → Held B.mach p → Held B'.mach (moved w p)

  own_is : (s' : Th) → c'.thr ≡ upd c.thr t s' → c'.thr t ≡ s'
  own_is s' th = ap (λ (f : ℕ → Th). f t) th ∙ upd_same c.thr t s'

  by_step : Went c t (c.thr t) (step c t (c.thr t)) → Goes (news_of m t o.answer o.machine)
  by_step (quiet s' th l k f g) = subst Goes (sym (news_is s' (own_is s' th) false false Taken l k (ap answer_of f))) (held_quiet B r.kept t s' th g f)
  by_step (linked v n x sd th) =
      let i = (ranged b B r).threads t in
      let h : (n < c.conf.nodes) × (x < c.conf.nodes) = rw sd at i in
      let k : (thread_at m t).node ≡ n = sym (ap own_of (sym sd ∙ reads A8 (sym (ap pace sd)) refl)) in
      subst Goes (sym (news_is (a9 v n x) (own_is (a9 v n x) th) true false (answer_of (step c t (c.thr t)).ans) (ap (λ (s : Th). links_to s (a9 v n x)) sd) (ap (λ (s : Th). takes_to s (a9 v n x)) sd) refl))
      (subst (λ (n : ℕ). Goes (Linked t n (node_at m (thread_at m t).node).index)) (sym k)
      (held_linked B r.kept t v n x _ sd th (omega (arith, node_few n h.0, r.tied.sizes.nodes_hi))))
  by_step (took g i x sd th nd) =
      let j = (ranged b B r).threads t in
      let h : (g < c.conf.nodes) × (x < c.conf.nodes) = rw sd at j in
      let k : (thread_at m t).next ≡ x = sym (ap next_of (sym sd ∙ reads D4 (sym (ap pace sd)) refl)) in
      subst Goes (sym (news_is (d5 g x) (own_is (d5 g x) th) false true (answer_of (step c t (c.thr t)).ans) (ap (λ (s : Th). links_to s (d5 g x)) sd) (ap (λ (s : Th). takes_to s (d5 g x)) sd) refl))
      (held_took B r.kept t g i x (node_at m (thread_at m t).next).index sd th nd (ap (λ (n : ℕ). (node_at m n).index) k ∙ index_is x h.1))
  by_step (said th r0 r4 tn od) =
      subst Goes (sym (news_is idle (own_is idle th) false false (answer_of (step c t (c.thr t)).ans) (none (eqb (pace (c.thr t)) 8)) (none (eqb (pace (c.thr t)) 16)) refl
      ∙ said_is t (step c t (c.thr t)).ans r0 r4)) (held_said B r.kept t (heard (step c t (c.thr t)).ans) th r0 tn od)
    where
      none : (x : Bool) → both x false ≡ false
      none true = refl
      none false = refl
  by_step (gave g v sd th f) =
      subst Goes (sym (news_is idle (own_is idle th) false false (Item v) (ap (λ (s : Th). links_to s idle) sd) (ap (λ (s : Th). takes_to s idle) sd) (ap answer_of f)))
      (held_gave B r.kept t g v sd th)

  pub held_steps : Goes (news_of m t o.answer o.machine)
  held_steps = by_step (went c t (c.thr t) (takes b B r q e steps a).1)

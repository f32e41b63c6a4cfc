-- Demand 3b: the invariant holds through every run, so every ending recovers to a lawful queue.
use mathlib.Core.Path.{◌≡◌, refl, sym, subst}
use mathlib.Core.Bool.{Bool, true, false}
use mathlib.Core.List.{List, [], ◌∷◌}
use Prim.Native.Nat.{ℕ, suc, ◌≤◌, ◌<◌}
use native.Mathlib.Omega.{arith}
use lib.Dec.{T, ltb, ltb→lt}
use Rattle.model.specs.Basics.{bothb}
use Rattle.model.specs.Lines.{Line, of_head, of_node, act, back, flushes}
use Rattle.model.specs.Conf.{Within}
use Rattle.model.specs.Core.{Node, content}
use Rattle.model.specs.Steps.{Act, enq, deq, move, does}
use Rattle.model.specs.Recovery.{Image, recovered, head_of, image_has, items_of}
use Rattle.model.specs.Machine.{M, Event, ev, crash, event, answer, starts, persisted, Has}
use Rattle.model.specs.Bench.{Book, Bench, new_book, note, turn, first_after, bench, opening}
use Rattle.model.specs.Demand3.{Ending, Fit, Tidy, Takes, TakesAll, Demand3b}
use Rattle.model.proofs.Times.{hist_of, Timed, Grown, first_has, on_grown, on_timed, start_timed}
use Rattle.model.proofs.Page.Frame.{frame}
use Rattle.model.proofs.Layer1.Ghost.{off}
use Rattle.model.proofs.Layer2.Contents.{Quiet, idx_mono}
use Rattle.model.proofs.Layer3.All.{All}
use Rattle.model.proofs.Layer3.Event.{step_all, begin_enq, begin_deq, back_all}
use Rattle.model.proofs.Start.Begins.{start_all}
use Rattle.model.proofs.Demand3.Endings.{fit, lawful, place_of}

pub no_rec : (h : ℕ) (c : Node) → (c.linked ≡ true → c.index ≤ h) → recovered h c ≡ false
no_rec h c f = by c.linked refl (ltb h c.index) refl
  where
    by : (a : Bool) → c.linked ≡ a → (b : Bool) → ltb h c.index ≡ b → bothb c.linked (ltb h c.index) ≡ false
    by false e b w = rw e refl
    by true e false w = rw (e, w) refl
    by true e true w = let z : h < c.index = ltb→lt h c.index (subst T (sym w) tt) in absurd (omega (arith, f e))

module _ (m : M) (b : Book) (q₀ : List ℕ) (now : ℕ) (a : All (λ n. false) (hist_of m) m.core b q₀ now) (i : Timed m) where
  -- what is persisted is an ending
  pub stays_put : Ending (Has m) m.core.conf (persisted m)
  stays_put = record { conf = refl; lines = λ l h. at l h }
    where
      at : (l : Line) → Within m.core.conf l → Has m l (image_has (persisted m) l)
      at (of_head k) h = let c = first_has m m.core i (of_head k) in subst (Has m (of_head k)) (a.pinv.head.plain k h _ c) c
      at (of_node n) h = first_has m m.core i (of_node n)

  pub clean : (n : ℕ) → m.core.conf.nodes ≤ n → recovered (head_of (persisted m)) ((persisted m).at n) ≡ false
  clean n h =
      let qt : Quiet (a.g.idx a.p.pp) ((persisted m).at n) off = rw ((a.table n).0 h) at (a.pinv.nodes.quiet n
      ((persisted m).at n) (first_has m m.core i (of_node n))) in
      let hd = place_of (λ n. false) (hist_of m) m.core b q₀ now a (persisted m) stays_put in
      no_rec (head_of (persisted m)) ((persisted m).at n)
      (λ l. omega (
        arith,
        qt l,
        hd.3,
        idx_mono a.g.idx a.g.len a.inv.log.rising a.p.pp hd.0 hd.1
            (omega (arith, hd.2, a.inv.log.hp_in)),
      ))

  -- what an act makes of the contents
  acts : (x : Act) → Grown (does m.core x).touch (content (does m.core x).core) (hist_of m) (hist_of (event m (ev (act x))))
  acts x = on_grown m (does m.core x).core i (does m.core x).touch (frame m.core x)

  pub turn_all : (e : Event) → Takes m e → All (λ n. false) (hist_of (event m e)) (event m e).core (note b now e (answer m e))
      (first_after (record { mach = m; book = b; first = q₀; now = now }) e) (suc now)
  turn_all (ev (act (enq t v))) k = begin_enq (λ n. false) (hist_of m) _ m.core b q₀ now a t (acts (enq t v)) v k.0 k.1
  turn_all (ev (act (deq t))) k = begin_deq (λ n. false) (hist_of m) _ m.core b q₀ now a t (acts (deq t)) k.0 k.1
  turn_all (ev (act (move t))) k = step_all (λ n. false) (hist_of m) _ m.core b q₀ now a t (acts (move t))
  turn_all (ev (back l)) k = back_all (λ n. false) (hist_of m) _ m.core b q₀ now a l k (on_grown m m.core i (flushes l) (λ k ne. refl))
  turn_all crash k = start_all (persisted m) (fit (λ n. false) (hist_of m) m.core b q₀ now a (persisted m) stays_put) clean (suc now)

  pub turn_timed : (e : Event) → Timed (event m e)
  turn_timed (ev (act x)) = on_timed m (does m.core x).core i (does m.core x).touch
  turn_timed (ev (back l)) = on_timed m m.core i (flushes l)
  turn_timed crash = start_timed (persisted m)

pub run_all : (b : Bench) (l : List Event) → All (λ n. false) (hist_of b.mach) b.mach.core b.book b.first b.now → Timed b.mach → TakesAll b.mach l
    → All (λ n. false) (hist_of (bench b l).mach) (bench b l).mach.core (bench b l).book (bench b l).first (bench b l).now
unfolding bench
run_all b [] a i k = a
run_all b (e ∷ l) a i k = run_all (turn b e) l (turn_all b.mach b.book b.first b.now a i e k.0) (turn_timed b.mach b.book b.first b.now a i e) k.1

pub open_all : (g : Image) → Fit g → Tidy g → All (λ n. false) (hist_of (starts g)) (starts g).core new_book (items_of g) 0
open_all g f t = start_all g f (λ n h. no_rec (head_of g) (g.at n) (λ z. let w = t n h in let y : ◌≡◌ {A = ℕ} 0 1 = cc in absurd (omega arith))) 0

pub demand3b : Demand3b
demand3b g f t l k e en =
    let a = run_all (opening g) l (open_all g f t) (start_timed g) k in
    (fit _ _ _ _ _ _ a e en, lawful _ _ _ _ _ _ a e en)

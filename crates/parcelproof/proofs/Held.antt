-- What is so of an enqueue on the list at every moment, and how each event of the abstract machine keeps it.
use Prim.Native.Nat.{ℕ, ◌≤◌}
use mathlib.Core.Path.{◌≡◌, refl, sym, ap, subst, ◌∙◌}
use mathlib.Core.Bool.{Bool, true, false}
use mathlib.Core.Logic.{◌≢◌}
use mathlib.Core.Option.{Option, none, some}
use lib.Dec.{eqb, leb}
use Rattle.lists.specs.Find.{pick}
use Rattle.lists.proofs.BoolLaws.{no_way}
use Rattle.model.specs.Lines.{Touch, nowhere, stores, flushes, issues, fences, of_head}
use Rattle.model.specs.Conf.{Engine, shared, split, Mode, at_once, fenced, line_ix, same_head, head_touch}
use Rattle.model.specs.Core.{Core, Th, content, idle, a1, a2, a3, a4, a5, a6, a7, a8, a9, a10, a10f, a11, a12, d1, d2, d3, d3f, d4, d5, d6, d6f, d7, s3, s6, elsewhere}
use Rattle.model.specs.Core.{nothing, busy}
use Rattle.model.specs.Places.{owns_e}
use Rattle.model.specs.Steps.{Act, move, does, step, step_a1, step_a6, step_a7, step_a8, step_a10, step_a11, step_a12, step_d2, step_d3, step_d4, step_d6}
use Rattle.model.specs.Machine.{M, goes_on}
use Rattle.model.specs.Bench.{Bench}
use Rattle.model.proofs.Times.{hist_of, Grown, on_grown}
use Rattle.model.proofs.Page.Frame.{frame, conf_same}
use Rattle.model.proofs.Always.Runs.{Kept}
use Rattle.model.proofs.Always.Steady.{heads_up}
use Rattle.std.specs.Prelude.{Some}
use Rattle.answer.specs.declared.Reply.TheVariants as reply
use Rattle.parcels.specs.Parcel.{is_linked}
use Rattle.parcels.specs.Despatch.{turned_away}
use Rattle.parcels.specs.declared.Parcel.{Parcel}
use Rattle.parcelproof.proofs.Taking.{Covered, Taking, covered_on, taking_on}
use Rattle.parcelproof.proofs.Taken.{at_d5, at_s6, not_own}
use Rattle.parcelproof.proofs.Went.{phase}

pub record Held (m : M) (p : Parcel) : Type 0 where
  -- while it has not answered its thread has it, linked or not
  pub opened : p.said ≡ reply.Taken → phase (m.core.thr p.thread) ≡ pick (is_linked p) 2 1
  -- Full and Worn out are answered by one that is not linked
  pub turned : turned_away p ≡ true → is_linked p ≡ false
  pub taken : (u : ℕ) → p.taker ≡ Some u → is_linked p ≡ true
  -- once it is handed out no ending has a head index below its own
  pub handed : p.handed ≡ true → (u : ℕ) × (p.taker ≡ Some u) × Covered m p.index
  pub taking : p.handed ≡ false → (u : ℕ) → p.taker ≡ Some u → Taking m.core.conf.engine m u p.index (m.core.thr u)

pub idle_of : (s : Th) → busy s ≡ false → s ≡ idle
idle_of idle b = refl
idle_of (a1 v) b = no_way b
idle_of (a2 v n) b = no_way b
idle_of (a3 v n) b = no_way b
idle_of (a4 v n) b = no_way b
idle_of (a5 v n) b = no_way b
idle_of (a6 v n x) b = no_way b
idle_of (a7 v n x) b = no_way b
idle_of (a8 v n x) b = no_way b
idle_of (a9 v n x) b = no_way b
idle_of (a10 v n x) b = no_way b
idle_of (a10f v n x) b = no_way b
idle_of (a11 v n x) b = no_way b
idle_of (a12 v n x) b = no_way b
idle_of d1 b = no_way b
idle_of elsewhere b = no_way b
idle_of (d2 h i) b = no_way b
idle_of (d3 h i) b = no_way b
idle_of (d3f h i) b = no_way b
idle_of (s3 h i) b = no_way b
idle_of (d4 h i x) b = no_way b
idle_of (d5 h y) b = no_way b
idle_of (d6 h v) b = no_way b
idle_of (d6f h v) b = no_way b
idle_of (s6 h y v) b = no_way b
idle_of (d7 h v) b = no_way b

-- a step flushes for its own thread alone
abbrev flusher : Touch → ℕ → ℕ
flusher nowhere t = t
flusher (stores l) t = t
flusher (flushes l) t = t
flusher (issues u) t = u
flusher (fences u l) t = t

module _ (c : Core) (t : ℕ) where
  f_a1 : (v : ℕ) (o : Option ℕ) → flusher (step_a1 c t v o).touch t ≡ t
  f_a1 v none = refl
  f_a1 v (some n) = refl

  f_a6 : (v n x : ℕ) (o : Option ℕ) → flusher (step_a6 c t v n x o).touch t ≡ t
  f_a6 v n x none = refl
  f_a6 v n x (some y) = refl

  f_a7 : (v n x : ℕ) (b : Bool) → flusher (step_a7 c t v n x b).touch t ≡ t
  f_a7 v n x true = refl
  f_a7 v n x false = refl

  f_a8 : (v n x : ℕ) (o : Option ℕ) → flusher (step_a8 c t v n x o).touch t ≡ t
  f_a8 v n x none = refl
  f_a8 v n x (some y) = refl

  f_a10 : (v n x : ℕ) (d : Mode) → flusher (step_a10 c t v n x d).touch t ≡ t
  f_a10 v n x at_once = refl
  f_a10 v n x fenced = refl

  f_a11 : (n : ℕ) (b : Bool) → flusher (step_a11 c t n b).touch t ≡ t
  f_a11 n true = refl
  f_a11 n false = refl

  f_a12 : (v n : ℕ) (b : Bool) (o : Option ℕ) → flusher (step_a12 c t v n b o).touch t ≡ t
  f_a12 v n true none = refl
  f_a12 v n true (some y) = refl
  f_a12 v n false o = refl

  f_d2 : (h i : ℕ) (o : Option ℕ) → flusher (step_d2 c t h i o).touch t ≡ t
  f_d2 h i none = refl
  f_d2 h i (some y) = refl

  f_d3 : (h i : ℕ) (d : Mode) → flusher (step_d3 c t h i d).touch t ≡ t
  f_d3 h i at_once = refl
  f_d3 h i fenced = refl

  f_head : (E : Engine) → flusher (head_touch E) t ≡ t
  f_head shared = refl
  f_head split = refl

  f_d4 : (h x : ℕ) (b : Bool) → flusher (step_d4 c t h x b).touch t ≡ t
  f_d4 h x true = f_head c.conf.engine
  f_d4 h x false = refl

  f_d6 : (h v : ℕ) (d : Mode) → flusher (step_d6 c t h v d).touch t ≡ t
  f_d6 h v at_once = refl
  f_d6 h v fenced = refl

  flusher_is : (s : Th) → flusher (step c t s).touch t ≡ t
  flusher_is idle = refl
  flusher_is (a1 v) = f_a1 v (c.conf.chooser.pick c.conf.nodes c.last c.free)
  flusher_is (a2 v n) = refl
  flusher_is (a3 v n) = refl
  flusher_is (a4 v n) = refl
  flusher_is (a5 v n) = refl
  flusher_is (a6 v n x) = f_a6 v n x (c.next x)
  flusher_is (a7 v n x) = f_a7 v n x (leb c.conf.top (c.node x).index)
  flusher_is (a8 v n x) = f_a8 v n x (c.next x)
  flusher_is (a9 v n x) = refl
  flusher_is (a10 v n x) = f_a10 v n x c.conf.mode
  flusher_is (a10f v n x) = refl
  flusher_is (a11 v n x) = f_a11 n (eqb c.tail x)
  flusher_is (a12 v n x) = f_a12 v n (eqb c.tail x) (c.next x)
  flusher_is d1 = refl
  flusher_is elsewhere = refl
  flusher_is (d2 h i) = f_d2 h i (c.next h)
  flusher_is (d3 h i) = f_d3 h i c.conf.mode
  flusher_is (d3f h i) = refl
  flusher_is (s3 h i) = refl
  flusher_is (d4 h i x) = f_d4 h x (same_head c.conf.engine (eqb c.hnode h) (eqb c.hidx i))
  flusher_is (d5 h y) = refl
  flusher_is (d6 h v) = f_d6 h v c.conf.mode
  flusher_is (d6f h v) = refl
  flusher_is (s6 h y v) = refl
  flusher_is (d7 h v) = refl

  pub flushes_own : (s : Th) (u : ℕ) → u ≢ t → (step c t s).touch ≢ issues u
  flushes_own s u ne e = ne (ap (λ (w : Touch). flusher w t) (sym e) ∙ flusher_is s)

-- ---- an act

module _ (B : Bench) (k : Kept B) (x : Act) where
  abbrev m : M
  m = B.mach

  abbrev c : Core
  c = m.core

  abbrev c' : Core
  c' = (does c x).core

  abbrev w : Touch
  w = (does c x).touch

  abbrev m' : M
  m' = goes_on m c' w

  grown : Grown w (content c') (hist_of m) (hist_of m')
  grown = on_grown m c' k.timed w (frame c x)

  up : (j : ℕ) → (content c (of_head j)).index ≤ (content c' (of_head j)).index
  up j = subst (λ f. (content c (of_head j)).index ≤ line_ix f.engine c'.hidx c'.marks j) (sym (conf_same c x)) (heads_up _ _ _ _ _ _ k.all x j)

  pub covers : (y : ℕ) → Covered m y → Covered m' y
  covers y v = covered_on m c' w k.timed grown up (conf_same c x) y v

  pub as_engine : (u y : ℕ) (s : Th) → Taking c.conf.engine m' u y s → Taking c'.conf.engine m' u y s
  as_engine u y s z = subst (λ f. Taking f.engine m' u y s) (sym (conf_same c x)) z

  -- a thread that does not move
  module _ (ik : (y : ℕ) → ((v : ℕ) → owns_e (c.thr v) ≡ some y → ⊥) → (c'.node y).index ≡ (c.node y).index) where
    pub takes_on : (u y : ℕ) → w ≢ issues u → c'.thr u ≡ c.thr u → Taking c.conf.engine m u y (c.thr u) → Taking c'.conf.engine m' u y (c'.thr u)
    takes_on u y nf e z = subst (Taking c'.conf.engine m' u y) (sym e) (as_engine u y (c.thr u) (taking_on m c' w k.timed grown up c.conf.engine u y (c.thr u) nf
        (λ h n f. ik n (λ v o. not_own m _ _ _ k.timed k.all u n v (at_d5 m _ _ _ k.timed k.all u h n f) o))
        (λ h n v f. ik n (λ q o. not_own m _ _ _ k.timed k.all u n q (at_s6 m _ _ _ k.timed k.all u h n v f) o)) z))

  -- a parcel of which nothing is told
  pub stays : (p : Parcel) → Held m p → (p.said ≡ reply.Taken → phase (c'.thr p.thread) ≡ phase (c.thr p.thread))
      → (p.handed ≡ false → (u : ℕ) → p.taker ≡ Some u → Taking c.conf.engine m u p.index (c.thr u)
      → Taking c'.conf.engine m' u p.index (c'.thr u))
      → Held m' p
  stays p h o f = record {
    opened = λ e. o e ∙ h.opened e;
    turned = h.turned;
    taken = h.taken;
    handed = λ e. ((h.handed e).0, (h.handed e).1, covers p.index (h.handed e).2);
    taking = λ e u q. f e u q (h.taking e u q);
  }

-- Of the abstract machine: what a dequeue that has taken a node has of its index, step by step up to the head line that it persists; and what other events leave of it.
use Prim.Native.Nat.{ℕ, ◌≤◌, ◌<◌}
use mathlib.Core.Path.{◌≡◌, refl, sym, ap, subst, ◌∙◌}
use mathlib.Core.Bool.{Bool, true, false}
use mathlib.Core.Logic.{◌≢◌, ◌⊎◌, inl, inr}
use mathlib.Core.Option.{Option, none, some}
use native.Mathlib.Omega.{arith}
use lib.Dec.{eqb, leb}
use Rattle.model.specs.Lines.{Line, of_head, Touch, nowhere, stores, flushes, issues, fences}
use Rattle.model.specs.Conf.{Engine, Mode, at_once, fenced, line_of, head_lines, same_head}
use Rattle.model.specs.Core.{Core, Th, Node, content, idle, a1, a2, a3, a4, a5, a6, a7, a8, a9, a10, a10f, a11, a12, d1, d2, d3, d3f, d4, d5, d6, d6f, d7, s3, s6, elsewhere}
use Rattle.model.specs.Core.{with_item, with_linked}
use Rattle.model.specs.Places.{owns_e, owns_d}
use Rattle.model.specs.Steps.{step, step_a1, step_a6, step_a7, step_a8, step_a10, step_a11, step_a12, step_d2, step_d3, step_d4, step_d6, retire_held}
use Rattle.model.specs.Machine.{M, Has, Since, goes_on}
use Rattle.model.proofs.Basics.{upd_ind, upd_other}
use Rattle.model.proofs.Times.{Hist, hist_of, Made, Later, Grown, Timed}

-- every content of head line k is at least x; and every one since thread u's flush
abbrev pub AllOver : M → ℕ → ℕ → Type 0
AllOver m k x = (a : Node) → Has m (of_head k) a → x ≤ a.index

abbrev pub AllSince : M → ℕ → ℕ → ℕ → Type 0
AllSince m u k x = (a : Node) → Since m u (of_head k) a → x ≤ a.index

-- no ending has a head index below x
pub record Covered (m : M) (x : ℕ) : Type 0 where
  pub line : ℕ
  pub there : line < head_lines m.core.conf
  pub above : AllOver m line x

-- thread t, which is at s, has taken the node with index x
abbrev pub Taking : Engine → M → (t x : ℕ) → Th → Type 0
Taking E m t x idle = ⊥
Taking E m t x (a1 v) = ⊥
Taking E m t x (a2 v n) = ⊥
Taking E m t x (a3 v n) = ⊥
Taking E m t x (a4 v n) = ⊥
Taking E m t x (a5 v n) = ⊥
Taking E m t x (a6 v n q) = ⊥
Taking E m t x (a7 v n q) = ⊥
Taking E m t x (a8 v n q) = ⊥
Taking E m t x (a9 v n q) = ⊥
Taking E m t x (a10 v n q) = ⊥
Taking E m t x (a10f v n q) = ⊥
Taking E m t x (a11 v n q) = ⊥
Taking E m t x (a12 v n q) = ⊥
Taking E m t x d1 = ⊥
Taking E m t x elsewhere = ⊥
Taking E m t x (d2 h i) = ⊥
Taking E m t x (d3 h i) = ⊥
Taking E m t x (d3f h i) = ⊥
Taking E m t x (s3 h i) = ⊥
Taking E m t x (d4 h i q) = ⊥
Taking E m t x (d5 h y) = (m.core.node y).index ≡ x
Taking E m t x (d6 h v) = x ≤ (content m.core (of_head (line_of E t))).index
Taking E m t x (d6f h v) = (x ≤ (content m.core (of_head (line_of E t))).index) × AllSince m t (line_of E t) x
Taking E m t x (s6 h y v) = (m.core.node y).index ≡ x
Taking E m t x (d7 h v) = AllOver m (line_of E t) x

pub taking_owns : (E : Engine) (m : M) (t x : ℕ) (s : Th) → Taking E m t x s → owns_d s ≡ none → ⊥
taking_owns E m t x idle z f = z
taking_owns E m t x (a1 v) z f = z
taking_owns E m t x (a2 v n) z f = z
taking_owns E m t x (a3 v n) z f = z
taking_owns E m t x (a4 v n) z f = z
taking_owns E m t x (a5 v n) z f = z
taking_owns E m t x (a6 v n q) z f = z
taking_owns E m t x (a7 v n q) z f = z
taking_owns E m t x (a8 v n q) z f = z
taking_owns E m t x (a9 v n q) z f = z
taking_owns E m t x (a10 v n q) z f = z
taking_owns E m t x (a10f v n q) z f = z
taking_owns E m t x (a11 v n q) z f = z
taking_owns E m t x (a12 v n q) z f = z
taking_owns E m t x d1 z f = z
taking_owns E m t x elsewhere z f = z
taking_owns E m t x (d2 h i) z f = z
taking_owns E m t x (d3 h i) z f = z
taking_owns E m t x (d3f h i) z f = z
taking_owns E m t x (s3 h i) z f = z
taking_owns E m t x (d4 h i q) z f = z
taking_owns E m t x (d5 h y) z f = let q : ◌≡◌ {A = ℕ} 0 1 = cc in omega arith
taking_owns E m t x (d6 h v) z f = let q : ◌≡◌ {A = ℕ} 0 1 = cc in omega arith
taking_owns E m t x (d6f h v) z f = let q : ◌≡◌ {A = ℕ} 0 1 = cc in omega arith
taking_owns E m t x (s6 h y v) z f = let q : ◌≡◌ {A = ℕ} 0 1 = cc in omega arith
taking_owns E m t x (d7 h v) z f = let q : ◌≡◌ {A = ℕ} 0 1 = cc in omega arith

-- ---- an event that is no crash: the core is c, w was done to the lines, no head line falls

module _ (m : M) (c : Core) (w : Touch) (i : Timed m) (g : Grown w (content c) (hist_of m) (hist_of (goes_on m c w)))
    (up : (k : ℕ) → (content m.core (of_head k)).index ≤ (content c (of_head k)).index) where
  present : (k : ℕ) → Has m (of_head k) (content m.core (of_head k))
  present k = record { time = m.now; since = i.early (of_head k); until = omega arith; is = sym (i.present (of_head k)) }

  present_since : (u k : ℕ) → Since m u (of_head k) (content m.core (of_head k))
  present_since u k = record { time = m.now; since = i.marked u; until = omega arith; is = sym (i.present (of_head k)) }

  stored : (k x : ℕ) (l : Line) (a : Node) (A : Type 0) → (A → x ≤ a.index) → x ≤ (content m.core (of_head k)).index
      → A ⊎ ((of_head k ≡ l) × (a ≡ content c l)) → x ≤ a.index
  stored k x l a A f h (inl y) = f y
  stored k x l a A f h (inr y) = let q : a.index ≡ (content c (of_head k)).index = ap (λ (n : Node). n.index) (y.1 ∙ ap (content c) (sym y.0)) in omega (arith, up k)

  over_by : (hs : Hist) (w : Touch) → Made w (content c) (hist_of m) hs → (k x : ℕ) → AllOver m k x → (a : Node) → hs.is (of_head k) a → x ≤ a.index
  over_by hs nowhere h k x f a z = f a (h (of_head k) a z)
  over_by hs (stores l) h k x f a z = stored k x l a (Has m (of_head k) a) (f a) (f _ (present k)) (h (of_head k) a z)
  over_by hs (flushes l) h k x f a z = f a (h.0 (of_head k) a z)
  over_by hs (issues u) h k x f a z = f a (h (of_head k) a z)
  over_by hs (fences u l) h k x f a z = f a (h.0 (of_head k) a z)

  since_by : (hs : Hist) (w : Touch) → Later w (content c) (hist_of m) hs → (t k x : ℕ) → w ≢ issues t → AllSince m t k x → (a : Node) → hs.since t (of_head k) a → x ≤ a.index
  since_by hs nowhere h t k x nf f a z = f a (h t (of_head k) a z)
  since_by hs (stores l) h t k x nf f a z = stored k x l a (Since m t (of_head k) a) (f a) (f _ (present_since t k)) (h t (of_head k) a z)
  since_by hs (flushes l) h t k x nf f a z = f a (h t (of_head k) a z)
  since_by hs (issues u) h t k x nf f a z = f a (h.0 t (λ e. nf (ap issues (sym e))) (of_head k) a z)
  since_by hs (fences u l) h t k x nf f a z = f a (h t (of_head k) a z)

  pub covered_on : c.conf ≡ m.core.conf → (x : ℕ) → Covered m x → Covered (goes_on m c w) x
  covered_on cf x v = record {
    line = v.line;
    there = subst (λ f. v.line < head_lines f) (sym cf) v.there;
    above = over_by (hist_of (goes_on m c w)) w g.made v.line x v.above;
  }

  -- thread t does not move
  module _ (E : Engine) where
    pub taking_on : (t x : ℕ) (s : Th) → w ≢ issues t → ((h y : ℕ) → s ≡ d5 h y → (c.node y).index ≡ (m.core.node y).index)
        → ((h y v : ℕ) → s ≡ s6 h y v → (c.node y).index ≡ (m.core.node y).index) → Taking E m t x s → Taking E (goes_on m c w) t x s
    taking_on t x idle nf k5 k6 z = absurd z
    taking_on t x (a1 v) nf k5 k6 z = absurd z
    taking_on t x (a2 v n) nf k5 k6 z = absurd z
    taking_on t x (a3 v n) nf k5 k6 z = absurd z
    taking_on t x (a4 v n) nf k5 k6 z = absurd z
    taking_on t x (a5 v n) nf k5 k6 z = absurd z
    taking_on t x (a6 v n q) nf k5 k6 z = absurd z
    taking_on t x (a7 v n q) nf k5 k6 z = absurd z
    taking_on t x (a8 v n q) nf k5 k6 z = absurd z
    taking_on t x (a9 v n q) nf k5 k6 z = absurd z
    taking_on t x (a10 v n q) nf k5 k6 z = absurd z
    taking_on t x (a10f v n q) nf k5 k6 z = absurd z
    taking_on t x (a11 v n q) nf k5 k6 z = absurd z
    taking_on t x (a12 v n q) nf k5 k6 z = absurd z
    taking_on t x d1 nf k5 k6 z = absurd z
    taking_on t x elsewhere nf k5 k6 z = absurd z
    taking_on t x (d2 h i) nf k5 k6 z = absurd z
    taking_on t x (d3 h i) nf k5 k6 z = absurd z
    taking_on t x (d3f h i) nf k5 k6 z = absurd z
    taking_on t x (s3 h i) nf k5 k6 z = absurd z
    taking_on t x (d4 h i q) nf k5 k6 z = absurd z
    taking_on t x (d5 h y) nf k5 k6 z = k5 h y refl ∙ z
    taking_on t x (d6 h v) nf k5 k6 z = omega (arith, up (line_of E t))
    taking_on t x (d6f h v) nf k5 k6 z = (omega (arith, z.0, up (line_of E t)), since_by (hist_of (goes_on m c w)) w g.later t (line_of E t) x nf z.1)
    taking_on t x (s6 h y v) nf k5 k6 z = k6 h y v refl ∙ z
    taking_on t x (d7 h v) nf k5 k6 z = over_by (hist_of (goes_on m c w)) w g.made (line_of E t) x z

-- ---- a step moves the index of no node but its own enqueue's

module _ (c : Core) (t y : ℕ) where
  abbrev Same : Core → Type 0
  Same c' = (c'.node y).index ≡ (c.node y).index

  i_a1 : (v : ℕ) (o : Option ℕ) → Same (step_a1 c t v o).core
  i_a1 v none = refl
  i_a1 v (some n) = refl

  i_a6 : (v n x : ℕ) (o : Option ℕ) → Same (step_a6 c t v n x o).core
  i_a6 v n x none = refl
  i_a6 v n x (some z) = refl

  i_a7 : (v n x : ℕ) → y ≢ n → (b : Bool) → Same (step_a7 c t v n x b).core
  i_a7 v n x ne true = refl
  i_a7 v n x ne false = ap (λ (z : Node). z.index) (upd_other c.node n _ ne)

  i_a8 : (v n x : ℕ) (o : Option ℕ) → Same (step_a8 c t v n x o).core
  i_a8 v n x none = refl
  i_a8 v n x (some z) = refl

  i_a10 : (v n x : ℕ) (d : Mode) → Same (step_a10 c t v n x d).core
  i_a10 v n x at_once = refl
  i_a10 v n x fenced = refl

  i_a11 : (n : ℕ) (b : Bool) → Same (step_a11 c t n b).core
  i_a11 n true = refl
  i_a11 n false = refl

  i_a12 : (v n : ℕ) (b : Bool) (o : Option ℕ) → Same (step_a12 c t v n b o).core
  i_a12 v n true none = refl
  i_a12 v n true (some z) = refl
  i_a12 v n false o = refl

  i_d2 : (h i : ℕ) (o : Option ℕ) → Same (step_d2 c t h i o).core
  i_d2 h i none = refl
  i_d2 h i (some z) = refl

  i_d3 : (h i : ℕ) (d : Mode) → Same (step_d3 c t h i d).core
  i_d3 h i at_once = refl
  i_d3 h i fenced = refl

  i_d4 : (h x : ℕ) (b : Bool) → Same (step_d4 c t h x b).core
  i_d4 h x true = refl
  i_d4 h x false = refl

  i_d6 : (h v : ℕ) (d : Mode) → Same (step_d6 c t h v d).core
  i_d6 h v at_once = refl
  i_d6 h v fenced = refl

  i_d7 : (h : ℕ) (o : Option ℕ) → ((retire_held c t o).node y).index ≡ (c.node y).index
  i_d7 h none = refl
  i_d7 h (some n) = refl

  pub index_kept : (s : Th) → (owns_e s ≡ some y → ⊥) → Same (step c t s).core
  index_kept idle f = refl
  index_kept (a1 v) f = i_a1 v (c.conf.chooser.pick c.conf.nodes c.last c.free)
  index_kept (a2 v n) f = upd_ind c.node n (with_item (c.node n) v) (λ j (z : Node). z.index ≡ (c.node j).index) y refl (λ ne. refl)
  index_kept (a3 v n) f = refl
  index_kept (a4 v n) f = upd_ind c.node n (with_linked (c.node n) false) (λ j (z : Node). z.index ≡ (c.node j).index) y refl (λ ne. refl)
  index_kept (a5 v n) f = refl
  index_kept (a6 v n x) f = i_a6 v n x (c.next x)
  index_kept (a7 v n x) f = i_a7 v n x (λ e. f (ap some (sym e))) (leb c.conf.top (c.node x).index)
  index_kept (a8 v n x) f = i_a8 v n x (c.next x)
  index_kept (a9 v n x) f = upd_ind c.node n (with_linked (c.node n) true) (λ j (z : Node). z.index ≡ (c.node j).index) y refl (λ ne. refl)
  index_kept (a10 v n x) f = i_a10 v n x c.conf.mode
  index_kept (a10f v n x) f = refl
  index_kept (a11 v n x) f = i_a11 n (eqb c.tail x)
  index_kept (a12 v n x) f = i_a12 v n (eqb c.tail x) (c.next x)
  index_kept d1 f = refl
  index_kept elsewhere f = refl
  index_kept (d2 h i) f = i_d2 h i (c.next h)
  index_kept (d3 h i) f = i_d3 h i c.conf.mode
  index_kept (d3f h i) f = refl
  index_kept (s3 h i) f = refl
  index_kept (d4 h i x) f = i_d4 h x (same_head c.conf.engine (eqb c.hnode h) (eqb c.hidx i))
  index_kept (d5 h x2) f = refl
  index_kept (d6 h v) f = i_d6 h v c.conf.mode
  index_kept (d6f h v) f = refl
  index_kept (s6 h x2 v) f = refl
  index_kept (d7 h v) f = i_d7 h (c.held t)

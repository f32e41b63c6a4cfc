-- What a step of the abstract machine does to the threads: the others stay, and its own one keeps its operation until it has answered.
use mathlib.Core.Path.{◌≡◌, refl, sym, ap, ◌∙◌}
use mathlib.Core.Bool.{Bool, true, false}
use mathlib.Core.Logic.{◌≢◌}
use mathlib.Core.Option.{Option, none, some}
use Prim.Native.Nat.{ℕ}
use native.Mathlib.Omega.{arith}
use lib.Dec.{eqb, leb}
use Rattle.lists.proofs.BoolLaws.{no_way}
use Rattle.model.specs.Basics.{upd}
use Rattle.model.specs.Conf.{Mode, at_once, fenced, Engine, shared, split, same_head}
use Rattle.model.specs.Core.{Core, Th, busy, idle, a1, a2, a3, a4, a5, a6, a7, a8, a9, a10, a11, a12, d1, d2, d3, d4, d5, d6, d7, a10f, d3f, d6f, s3, s6, elsewhere}
use Rattle.model.specs.Core.{Ans, nothing, done, full, worn, empty, item}
use Rattle.model.specs.Steps.{Out, step, step_a1, step_a6, step_a7, step_a8, step_a11, step_a12, step_d2, step_d4, step_a10, step_d3, step_d6, empty_to, item_to, retire_held}
use Rattle.model.proofs.Basics.{upd_same, upd_other}

pub record Moved (m : Core) (t : ℕ) (o : Out) : Type 0 where
  pub others : (u : ℕ) → u ≢ t → o.core.thr u ≡ m.thr u
  pub stays : o.ans ≡ nothing → busy (o.core.thr t) ≡ true

abbrev heard : Ans → ℕ
heard nothing = 0
heard done = 1
heard full = 1
heard worn = 1
heard empty = 1
heard (item v) = 1

module _ (m : Core) (t : ℕ) where
  -- it goes on
  on : (s : Th) (o : Out) → busy s ≡ true → o.core.thr ≡ upd m.thr t s → Moved m t o
  on s o b e = record {
    others = λ u ne. ap (λ (f : ℕ → Th). f u) e ∙ upd_other m.thr t s ne;
    stays = λ a. ap (λ (f : ℕ → Th). busy (f t)) e ∙ ap busy (upd_same m.thr t s) ∙ b;
  }

  -- it answers
  off : (o : Out) → heard o.ans ≡ 1 → o.core.thr ≡ upd m.thr t idle → Moved m t o
  off o h e = record {
    others = λ u ne. ap (λ (f : ℕ → Th). f u) e ∙ upd_other m.thr t idle ne;
    stays = λ a. absurd (omega (arith, h, ap heard a));
  }

  m_a1 : (v : ℕ) (o : Option ℕ) → Moved m t (step_a1 m t v o)
  m_a1 v none = off _ refl refl
  m_a1 v (some n) = on (a2 v n) _ refl refl

  m_a6 : (v n x : ℕ) (o : Option ℕ) → Moved m t (step_a6 m t v n x o)
  m_a6 v n x none = on (a7 v n x) _ refl refl
  m_a6 v n x (some y) = on (a12 v n x) _ refl refl

  m_a7 : (v n x : ℕ) (c : Bool) → Moved m t (step_a7 m t v n x c)
  m_a7 v n x true = off _ refl refl
  m_a7 v n x false = on (a8 v n x) _ refl refl

  m_a8 : (v n x : ℕ) (o : Option ℕ) → Moved m t (step_a8 m t v n x o)
  m_a8 v n x none = on (a9 v n x) _ refl refl
  m_a8 v n x (some y) = on (a12 v n x) _ refl refl

  m_a11 : (n : ℕ) (c : Bool) → Moved m t (step_a11 m t n c)
  m_a11 n true = off _ refl refl
  m_a11 n false = off _ refl refl

  m_a12 : (v n : ℕ) (c : Bool) (o : Option ℕ) → Moved m t (step_a12 m t v n c o)
  m_a12 v n true none = on (a5 v n) _ refl refl
  m_a12 v n true (some y) = on (a5 v n) _ refl refl
  m_a12 v n false o = on (a5 v n) _ refl refl

  empty_busy : (E : Engine) (h i : ℕ) → busy (empty_to E h i) ≡ true
  empty_busy shared h i = refl
  empty_busy split h i = refl

  item_busy : (E : Engine) (h x v : ℕ) → busy (item_to E h x v) ≡ true
  item_busy shared h x v = refl
  item_busy split h x v = refl

  m_d2 : (h i : ℕ) (o : Option ℕ) → Moved m t (step_d2 m t h i o)
  m_d2 h i none = on (empty_to m.conf.engine h i) _ (empty_busy m.conf.engine h i) refl
  m_d2 h i (some x) = on (d4 h i x) _ refl refl

  m_d4 : (h x : ℕ) (c : Bool) → Moved m t (step_d4 m t h x c)
  m_d4 h x true = on (d5 h x) _ refl refl
  m_d4 h x false = on d1 _ refl refl

  m_a10 : (v n x : ℕ) (c : Mode) → Moved m t (step_a10 m t v n x c)
  m_a10 v n x at_once = on (a11 v n x) _ refl refl
  m_a10 v n x fenced = on (a10f v n x) _ refl refl

  m_d3 : (h i : ℕ) (c : Mode) → Moved m t (step_d3 m t h i c)
  m_d3 h i at_once = off _ refl refl
  m_d3 h i fenced = on (d3f h i) _ refl refl

  m_d6 : (h v : ℕ) (c : Mode) → Moved m t (step_d6 m t h v c)
  m_d6 h v at_once = on (d7 h v) _ refl refl
  m_d6 h v fenced = on (d6f h v) _ refl refl

  retired_thr : (o : Option ℕ) → (retire_held m t o).thr ≡ m.thr
  retired_thr none = refl
  retired_thr (some n) = refl

  pub moved : (s : Th) → busy s ≡ true → Moved m t (step m t s)
  moved idle b = no_way (sym b)
  moved (a1 v) b = m_a1 v (m.conf.chooser.pick m.conf.nodes m.last m.free)
  moved (a2 v n) b = on (a3 v n) _ refl refl
  moved (a3 v n) b = on (a4 v n) _ refl refl
  moved (a4 v n) b = on (a5 v n) _ refl refl
  moved (a5 v n) b = on (a6 v n m.tail) _ refl refl
  moved (a6 v n x) b = m_a6 v n x (m.next x)
  moved (a7 v n x) b = m_a7 v n x (leb m.conf.top (m.node x).index)
  moved (a8 v n x) b = m_a8 v n x (m.next x)
  moved (a9 v n x) b = on (a10 v n x) _ refl refl
  moved (a10 v n x) b = m_a10 v n x m.conf.mode
  moved (a10f v n x) b = on (a11 v n x) _ refl refl
  moved (a11 v n x) b = m_a11 n (eqb m.tail x)
  moved (a12 v n x) b = m_a12 v n (eqb m.tail x) (m.next x)
  moved d1 b = on (d2 m.hnode m.hidx) _ refl refl
  moved elsewhere b = on elsewhere _ refl refl
  moved (d2 h i) b = m_d2 h i (m.next h)
  moved (d3 h i) b = m_d3 h i m.conf.mode
  moved (d3f h i) b = off _ refl refl
  moved (d4 h i x) b = m_d4 h x (same_head m.conf.engine (eqb m.hnode h) (eqb m.hidx i))
  moved (d5 h x) b = on (item_to m.conf.engine h x (m.node x).item) _ (item_busy m.conf.engine h x (m.node x).item) refl
  moved (d6 h v) b = m_d6 h v m.conf.mode
  moved (d6f h v) b = on (d7 h v) _ refl refl
  moved (s3 h i) b = on (d3 h i) _ refl refl
  moved (s6 h x v) b = on (d6 h v) _ refl refl
  moved (d7 h v) b = off _ refl (ap (λ f. upd f t idle) (retired_thr (m.held t)))

-- The machine as an engine with lines: an act changes the content of no line but the one it stores to, and never the table's shape.
use mathlib.Core.Path.{◌≡◌, refl, sym, ap}
use mathlib.Core.Bool.{Bool, true, false}
use mathlib.Core.Logic.{◌≢◌}
use mathlib.Core.Option.{Option, none, some}
use Prim.Native.Nat.{ℕ, zero, suc}
use lib.Dec.{eqb, leb}
use Rattle.model.specs.Basics.{upd}
use Rattle.model.specs.Lines.{Line, of_head, of_node, Touch, nowhere, stores}
use Rattle.model.specs.Conf.{Mode, at_once, fenced, Engine, shared, split, same_head, head_touch}
use Rattle.model.specs.Core.{elsewhere, a10f, d3f, d6f}
use Rattle.model.specs.Core.{Th, Core, Node, hd, line_has, content, item, idle, a1, a2, a3, a4, a5, a6, a7, a8, a9, a10, a11, a12, d1, d2, d3}
use Rattle.model.specs.Core.{d4, d5, d6, d7, s3, s6}
use Rattle.model.specs.Changes.{set_held}
use Rattle.model.specs.Steps.{Out, Act, enq, deq, move, does, step, step_a1, step_a6, step_a7, step_a8, step_a11, step_a12, step_d2, step_d4}
use Rattle.model.specs.Steps.{retire_held, replies, step_a10, step_d3, step_d6}
use Rattle.model.proofs.Basics.{upd_other}

abbrev pub next : Core → Act → Core
next m a = (does m a).core

abbrev pub touch : Core → Act → Touch
touch m a = (does m a).touch

abbrev Framed : Core → Out → Type 0
Framed m o = (o.core.conf ≡ m.conf) × ((l : Line) → o.touch ≢ stores l → content o.core l ≡ content m l)

-- a store to a node's line
cell_frame : (E : Engine) (node : ℕ → Node) (i : ℕ) (f : ℕ → ℕ) (n : ℕ) (c : Node) (l : Line) → stores (of_node n) ≢ stores l
    → line_has E (upd node n c) i f l ≡ line_has E node i f l
cell_frame E node i f n c (of_head k) ne = refl
cell_frame E node i f n c (of_node k) ne = upd_other node n c (λ e. ne (ap (λ y. stores (of_node y)) (sym e)))

-- a change of Head
head_frame : (E : Engine) (node : ℕ → Node) (i i' : ℕ) (f : ℕ → ℕ) (l : Line) → head_touch E ≢ stores l → line_has E node i' f l ≡ line_has E node i f l
head_frame shared node i i' f (of_head zero) ne = absurd (ne refl)
head_frame shared node i i' f (of_head (suc k)) ne = refl
head_frame shared node i i' f (of_node n) ne = refl
head_frame split node i i' f (of_head k) ne = refl
head_frame split node i i' f (of_node n) ne = refl

-- a store to a thread's line
mark_frame : (E : Engine) (node : ℕ → Node) (i : ℕ) (f : ℕ → ℕ) (t a : ℕ) (l : Line) → stores (of_head t) ≢ stores l
    → line_has E node i (upd f t a) l ≡ line_has E node i f l
mark_frame shared node i f t a (of_head zero) ne = refl
mark_frame shared node i f t a (of_head (suc k)) ne = ap hd (upd_other f t a (λ e. ne (ap (λ y. stores (of_head y)) (sym e))))
mark_frame shared node i f t a (of_node n) ne = refl
mark_frame split node i f t a (of_head k) ne = ap hd (upd_other f t a (λ e. ne (ap (λ y. stores (of_head y)) (sym e))))
mark_frame split node i f t a (of_node n) ne = refl

module _ (m : Core) (t : ℕ) where
  f_a1 : (v : ℕ) (o : Option ℕ) → Framed m (step_a1 m t v o)
  f_a1 v none = (refl, λ l n. refl)
  f_a1 v (some y) = (refl, λ l n. refl)

  f_a6 : (v n x : ℕ) (o : Option ℕ) → Framed m (step_a6 m t v n x o)
  f_a6 v n x none = (refl, λ l n. refl)
  f_a6 v n x (some y) = (refl, λ l n. refl)

  f_a7 : (v n x : ℕ) (o : Bool) → Framed m (step_a7 m t v n x o)
  f_a7 v n x true = (refl, λ l n. refl)
  f_a7 v n x false = (refl, λ l ne. cell_frame m.conf.engine m.node m.hidx m.marks n _ l ne)

  f_a8 : (v n x : ℕ) (o : Option ℕ) → Framed m (step_a8 m t v n x o)
  f_a8 v n x none = (refl, λ l n. refl)
  f_a8 v n x (some y) = (refl, λ l n. refl)

  f_a11 : (n : ℕ) (o : Bool) → Framed m (step_a11 m t n o)
  f_a11 n true = (refl, λ l n. refl)
  f_a11 n false = (refl, λ l n. refl)

  f_a12 : (v n : ℕ) (b : Bool) (o : Option ℕ) → Framed m (step_a12 m t v n b o)
  f_a12 v n true none = (refl, λ l n. refl)
  f_a12 v n true (some y) = (refl, λ l n. refl)
  f_a12 v n false o = (refl, λ l n. refl)

  f_a10 : (v n x : ℕ) (c : Mode) → Framed m (step_a10 m t v n x c)
  f_a10 v n x at_once = (refl, λ l n. refl)
  f_a10 v n x fenced = (refl, λ l n. refl)

  f_d3 : (h i : ℕ) (c : Mode) → Framed m (step_d3 m t h i c)
  f_d3 h i at_once = (refl, λ l n. refl)
  f_d3 h i fenced = (refl, λ l n. refl)

  f_d6 : (h v : ℕ) (c : Mode) → Framed m (step_d6 m t h v c)
  f_d6 h v at_once = (refl, λ l n. refl)
  f_d6 h v fenced = (refl, λ l n. refl)

  f_d2 : (h i : ℕ) (o : Option ℕ) → Framed m (step_d2 m t h i o)
  f_d2 h i none = (refl, λ l n. refl)
  f_d2 h i (some y) = (refl, λ l n. refl)

  f_d4 : (h x : ℕ) (o : Bool) → Framed m (step_d4 m t h x o)
  f_d4 h x true = (refl, λ l ne. head_frame m.conf.engine m.node m.hidx (m.node x).index m.marks l ne)
  f_d4 h x false = (refl, λ l n. refl)

  f_d7 : (h v : ℕ) (o : Option ℕ) → Framed m (replies (set_held (retire_held m t o) t h) t (item v) nowhere)
  f_d7 h v none = (refl, λ l n. refl)
  f_d7 h v (some y) = (refl, λ l n. refl)

  f_step : (s : Th) → Framed m (step m t s)
  f_step idle = (refl, λ l n. refl)
  f_step (a1 v) = f_a1 v (m.conf.chooser.pick m.conf.nodes m.last m.free)
  f_step (a2 v n) = (refl, λ l ne. cell_frame m.conf.engine m.node m.hidx m.marks n _ l ne)
  f_step (a3 v n) = (refl, λ l n. refl)
  f_step (a4 v n) = (refl, λ l ne. cell_frame m.conf.engine m.node m.hidx m.marks n _ l ne)
  f_step (a5 v n) = (refl, λ l n. refl)
  f_step (a6 v n x) = f_a6 v n x (m.next x)
  f_step (a7 v n x) = f_a7 v n x (leb m.conf.top (m.node x).index)
  f_step (a8 v n x) = f_a8 v n x (m.next x)
  f_step (a9 v n x) = (refl, λ l ne. cell_frame m.conf.engine m.node m.hidx m.marks n _ l ne)
  f_step (a10 v n x) = f_a10 v n x m.conf.mode
  f_step (a10f v n x) = (refl, λ l n. refl)
  f_step (a11 v n x) = f_a11 n (eqb m.tail x)
  f_step (a12 v n x) = f_a12 v n (eqb m.tail x) (m.next x)
  f_step d1 = (refl, λ l n. refl)
  f_step elsewhere = (refl, λ l n. refl)
  f_step (d2 h i) = f_d2 h i (m.next h)
  f_step (d3 h i) = f_d3 h i m.conf.mode
  f_step (d3f h i) = (refl, λ l n. refl)
  f_step (d4 h i x) = f_d4 h x (same_head m.conf.engine (eqb m.hnode h) (eqb m.hidx i))
  f_step (d5 h x) = (refl, λ l n. refl)
  f_step (d6 h v) = f_d6 h v m.conf.mode
  f_step (d6f h v) = (refl, λ l n. refl)
  f_step (s3 h i) = (refl, λ l ne. mark_frame m.conf.engine m.node m.hidx m.marks t (m.node h).index l ne)
  f_step (s6 h x v) = (refl, λ l ne. mark_frame m.conf.engine m.node m.hidx m.marks t (m.node x).index l ne)
  f_step (d7 h v) = f_d7 h v (m.held t)

framed : (m : Core) (a : Act) → Framed m (does m a)
framed m (enq t v) = (refl, λ l n. refl)
framed m (deq t) = (refl, λ l n. refl)
framed m (move t) = f_step m t (m.thr t)

pub frame : (m : Core) (a : Act) (l : Line) → touch m a ≢ stores l → content (next m a) l ≡ content m l
frame m a = (framed m a).1

pub conf_same : (m : Core) (a : Act) → (next m a).conf ≡ m.conf
conf_same m a = (framed m a).0

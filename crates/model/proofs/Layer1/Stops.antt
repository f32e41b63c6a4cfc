-- Small facts that the steps share: where a thread stood does not matter when it answers; where Tail is; what D4's test says.
use mathlib.Core.Path.{◌≡◌, refl, sym, ap, ◌∙◌}
use mathlib.Core.Bool.{Bool, true, false}
use mathlib.Core.Option.{Option, none, some}
use Prim.Native.Nat.{ℕ, ◌≤◌, ◌<◌}
use native.Mathlib.Omega.{arith}
use Rattle.model.specs.Conf.{Engine, shared, split, same_head}
use Rattle.model.specs.Core.{elsewhere, a10f, d3f, d6f}
use Rattle.model.specs.Core.{Core, Th, busy, idle, a1, a2, a3, a4, a5, a6, a7, a8, a9, a10, a11, a12, d1, d2, d3, d4, d5, d6, d7, s3, s6}
use Rattle.model.specs.Changes.{set_held, set_th}
use Rattle.model.specs.Steps.{leave}
use Rattle.model.proofs.Basics.{upd_upd, both_of}
use Rattle.model.proofs.Layer1.Ghost.{Gh, Inv}
use Rattle.model.proofs.Layer1.Local.{same_place}
use Rattle.model.proofs.Layer1.D7.{drop_held}

abbrev pub set_thr : Core → (ℕ → Th) → Core
set_thr m th = record {
  conf = m.conf;
  node = m.node;
  next = m.next;
  hnode = m.hnode;
  hidx = m.hidx;
  tail = m.tail;
  marks = m.marks;
  last = m.last;
  free = m.free;
  wait = m.wait;
  held = m.held;
  thr = th;
}

abbrev set_helds : Core → (ℕ → Option ℕ) → Core
set_helds m h = record {
  conf = m.conf;
  node = m.node;
  next = m.next;
  hnode = m.hnode;
  hidx = m.hidx;
  tail = m.tail;
  marks = m.marks;
  last = m.last;
  free = m.free;
  wait = m.wait;
  held = h;
  thr = m.thr;
}

-- where a thread stood does not matter when it leaves
pub leave_again : (m : Core) (t : ℕ) (s : Th) → leave (set_th m t s) t ≡ leave m t
leave_again m t s = ap (set_thr (leave m t)) (upd_upd m.thr t s idle)

pub hold_again : (m : Core) (t h : ℕ) → leave (set_held (drop_held m t) t h) t ≡ leave (set_held m t h) t
hold_again m t h = ap (set_helds (leave m t)) (upd_upd m.held t none (some h))

module _ (m : Core) (g : Gh) (i : Inv m g) (t : ℕ) where
  -- Tail is at the place that an enqueue refers to
  pub at_tail : (q x : ℕ) → busy (m.thr t) ≡ true → g.who q ≡ x → g.base t ≤ q → q < g.len → m.tail ≡ x → g.tp ≡ q
  at_tail q x b w lo hi f = same_place m g i t b g.tp q (omega (arith, i.alive.base_lo t b, i.log.hp_in, i.log.tail_near))
      i.log.tail_in lo hi (sym i.log.tail_at ∙ f ∙ sym w)

pub same_number : (E : Engine) (a b : Bool) → same_head E a b ≡ true → a ≡ true
same_number shared a b f = (both_of a b f).0
same_number split a b f = f

-- a thread that has no operation
pub idle_of : (s : Th) → busy s ≡ false → s ≡ idle
idle_of idle f = refl
idle_of (a1 v) f = cc
idle_of (a2 v n) f = cc
idle_of (a3 v n) f = cc
idle_of (a4 v n) f = cc
idle_of (a5 v n) f = cc
idle_of (a6 v n x) f = cc
idle_of (a7 v n x) f = cc
idle_of (a8 v n x) f = cc
idle_of (a9 v n x) f = cc
idle_of (a10 v n x) f = cc
idle_of (a10f v n x) f = cc
idle_of (a11 v n x) f = cc
idle_of (a12 v n x) f = cc
idle_of d1 f = cc
idle_of elsewhere f = cc
idle_of (d2 h i) f = cc
idle_of (d3 h i) f = cc
idle_of (d3f h i) f = cc
idle_of (s3 h i) f = cc
idle_of (d4 h i x) f = cc
idle_of (d5 h x) f = cc
idle_of (d6 h v) f = cc
idle_of (d6f h v) f = cc
idle_of (s6 h x v) f = cc
idle_of (d7 h v) f = cc

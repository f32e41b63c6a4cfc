-- The theorem: each hand-out brings the round nearer to a node that is free, so it cannot come past it.
use Prim.Native.Nat.{ℕ, suc, ◌+◌, ◌≤◌, ◌<◌}
use mathlib.Core.Path.{◌≡◌, refl, sym, ap, subst, ◌∙◌}
use mathlib.Core.Bool.{true}
use mathlib.Core.List.{List, [], ◌∷◌}
use mathlib.Core.Logic.{inl, inr, ◌⊎◌, ◌≢◌}
use native.Mathlib.Omega.{arith}
use native.Mathlib.Decide.{ℕ_discrete, dec_lt}
use lib.ListN.{length}
use Rattle.lists.specs.Find.{least}
use Rattle.lists.specs.Word.{has}
use Rattle.lists.proofs.BoolLaws.{no_way}
use Rattle.lists.proofs.FindLaws.{gap, least_clear, around_lt, around_nearer}
use Rattle.machine.specs.Retire.{next_free}
use Rattle.machine.specs.Event.{event_at}
use Rattle.machine.specs.declared.Machine.{Machine}
use Rattle.machine.specs.declared.Event.{Event}
use Rattle.turns.specs.Turns.{HandsOut, Handed, NoCrash, after_all, InTurn}
use Rattle.turns.proofs.Still.{Still, Given, left_by}

-- where the round stands: at a node of the machine that is not i, i is free, and it is no further from i than j is
record Stands (m : Machine) (i j : ℕ) : Type 0 where
  last_in : m.last < m.n
  node_in : i < m.n
  other : m.last ≢ i
  free : has m.free i ≡ true
  near : gap m.n m.last i ≤ gap m.n j i

nearer : (m : Machine) (i j : ℕ) → Stands m i j → gap m.n (next_free m) i < gap m.n m.last i
unfolding next_free
nearer m i j s = around_nearer (has m.free) m.n m.last i s.last_in s.node_in s.other s.free

still : (m m' : Machine) (i j : ℕ) → Stands m i j → Still m m' → Stands m' i j
still m m' i j s k = record {
  last_in = omega (arith, s.last_in, k.last, k.count);
  node_in = omega (arith, s.node_in, k.count);
  other = λ e. s.other (sym k.last ∙ e);
  free = k.free i s.free;
  near = rw (k.last, k.count) s.near;
}

given : (m m' : Machine) (i j : ℕ) → next_free m < m.n → next_free m ≢ i → Stands m i j → Given m m' → Stands m' i j
given m m' i j h ne s k = record {
  last_in = omega (arith, h, k.last, k.count);
  node_in = omega (arith, s.node_in, k.count);
  other = λ e. ne (sym k.last ∙ e);
  free = k.free i (λ e. ne (sym e)) s.free;
  near = rw (k.last, k.count) (omega (arith, s.near, nearer m i j s));
}

-- the next one is a node, since i is free
next_in : (m : Machine) (i j : ℕ) → Stands m i j → next_free m < m.n
unfolding next_free
next_in m i j s = around_lt (has m.free) m.n m.last (by (dec_lt (least (has m.free) m.n 0) m.n))
  where
    by : Dec (least (has m.free) m.n 0 < m.n) → least (has m.free) m.n 0 < m.n
    by (yes h) = h
    by (no h) = no_way (sym s.free ∙ least_clear (has m.free) m.n 0 (omega arith) i (omega arith) (omega (arith, s.node_in)))

turn : (p : ℕ) (m : Machine) (l : List Event) (e : Event) (i j : ℕ) → NoCrash l → Stands m i j → HandsOut (p + length l) (after_all p m l) e j → Handed i p m l
unfolding after_all
turn p m [] e i j c s h = absurd (omega (arith, s.near, ap (λ x. gap m.n x i) h.node, nearer m i j s))
turn p m (d ∷ l) e i j c s h = by (left_by p m d c.0) (λ k. turn (suc p) m' l e i j c.1 k (subst (λ q. HandsOut q (after_all (suc p) m' l) e j) z h))
  where
    m' : Machine
    m' = (event_at p m d).machine

    z : p + length (d ∷ l) ≡ suc p + length l
    z = omega arith

    by : (HandsOut p m d (next_free m) × Given m (event_at p m d).machine) ⊎ Still m (event_at p m d).machine
        → (Stands (event_at p m d).machine i j → Handed i (suc p) (event_at p m d).machine l) → Handed i p m (d ∷ l)
    by (inr k) r = inr (r (still m (event_at p m d).machine i j s k))
    by (inl (o, k)) r = at (ℕ_discrete (next_free m) i)
      where
        at : Dec (next_free m ≡ i) → Handed i p m (d ∷ l)
        at (yes q) = inl (subst (HandsOut p m d) q o)
        at (no q) = inr (r (given m (event_at p m d).machine i j (next_in m i j s) q s k))

-- between two hand-outs of j, every other node that was free behind the first is handed out
pub in_turn : (p : ℕ) (m : Machine) (l : List Event) (e : Event) (i j : ℕ) → InTurn p m l e i j
in_turn p m l e i j last j-in i-in ne free c h =
    turn p m l e i j c
    (record {
      last_in = omega arith;
      node_in = i-in;
      other = λ q. ne (sym q ∙ last);
      free = free;
      near = rw last (omega arith);
    })
    h

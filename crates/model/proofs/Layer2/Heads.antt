-- What the contents of head lines can be, and how they change.
use mathlib.Core.Path.{◌≡◌, refl, sym, subst, ap, ◌∙◌}
use mathlib.Core.Logic.{◌⊎◌, inl, inr}
use Prim.Native.Nat.{ℕ, zero, suc, ◌≤◌, ◌<◌, max}
use native.Mathlib.Omega.{arith}
use native.Mathlib.Decide.{dec_lt, dec_le, ℕ_discrete}
use Rattle.model.specs.Core.{Node, hd}
use Rattle.model.specs.Recovery.{largest}
use Rattle.model.proofs.Layer2.Contents.{idx_mono}

-- H head lines that hold cur: the contents of each are indices of places up to Head's, or none that a start did not find; in one of them,
-- the anchor, nothing is older than pp
pub record HeadP (H hp pp : ℕ) (idx : ℕ → ℕ) (cur : ℕ → ℕ) (hh : ℕ → Node → Type 0) : Type 0 where
  pub pp_hp : pp ≤ hp
  pub heads : (k : ℕ) → k < H → (c : Node) → hh k c → (c.index ≤ idx 0) ⊎ ((p : ℕ) × (p ≤ hp) × (c.index ≡ idx p))
  pub present : (k : ℕ) → k < H → hh k (hd (cur k))
  pub plain : (k : ℕ) → k < H → (c : Node) → hh k c → c ≡ hd c.index
  pub anchor : ℕ
  pub anchor_in : anchor < H
  pub anchored : (c : Node) → hh anchor c → idx pp ≤ c.index

pub largest_le : (n : ℕ) (f : ℕ → ℕ) (k : ℕ) → k < n → f k ≤ largest n f
unfolding largest
largest_le zero f k h = absurd (omega arith)
largest_le (suc n) f k h = by (ℕ_discrete k n) (largest_le n f k)
  where
    by : Dec (k ≡ n) → (k < n → f k ≤ largest n f) → f k ≤ max (largest n f) (f n)
    by (yes e) r = rw e (omega arith)
    by (no ne) r = omega (arith, r (omega arith))

pub largest_is : (n : ℕ) (f : ℕ → ℕ) → 0 < n → (k : ℕ) × (k < n) × (largest n f ≡ f k)
unfolding largest
largest_is zero f h = absurd (omega arith)
largest_is (suc n) f h = by (dec_lt (f n) (largest n f)) (dec_lt 0 n) (largest_is n f)
  where
    zero_of : (n : ℕ) → ¬ (0 < n) → largest n f ≡ 0
    zero_of zero z = refl
    zero_of (suc n) z = absurd (omega arith)

    by : Dec (f n < largest n f) → Dec (0 < n) → (0 < n → (k : ℕ) × (k < n) × (largest n f ≡ f k)) → (k : ℕ) × (k < suc n) × (max (largest n f) (f n) ≡ f k)
    by (yes z) (yes w) r = let q = r w in (q.0, omega (arith, q.1), omega (arith, q.2))
    by (yes z) (no w) r = absurd (omega (arith, zero_of n w))
    by (no z) w r = (n, omega arith, omega arith)

module _ (H hp pp len : ℕ) (idx cur : ℕ → ℕ) (hh : ℕ → Node → Type 0) (rising : (p q : ℕ) → p < q → q < len → idx p < idx q) (hp_in : hp < len)
    (i : HeadP H hp pp idx cur hh) where
  back_le : (p q : ℕ) → p < len → idx p ≤ idx q → p ≤ q
  back_le p q h k = by (dec_lt q p)
    where
      by : Dec (q < p) → p ≤ q
      by (yes z) = absurd (omega (arith, rising q p z h))
      by (no z) = omega arith

  -- Head moves on; the log grows at its end
  pub moved_h : (hp' : ℕ) (idx' : ℕ → ℕ) → hp ≤ hp' → ((p : ℕ) → p ≤ hp → idx' p ≡ idx p) → HeadP H hp' pp idx' cur hh
  moved_h hp' idx' le ik = record {
    pp_hp = omega (arith, i.pp_hp);
    heads = λ k h c l. on c (i.heads k h c l);
    present = i.present;
    plain = i.plain;
    anchor = i.anchor;
    anchor_in = i.anchor_in;
    anchored = λ c l. omega (arith, i.anchored c l, ik pp i.pp_hp);
  }
    where
      on : (c : Node) → (c.index ≤ idx 0) ⊎ ((p : ℕ) × (p ≤ hp) × (c.index ≡ idx p)) → (c.index ≤ idx' 0) ⊎ ((p : ℕ) × (p ≤ hp') × (c.index ≡ idx' p))
      on c (inl z) = inl (omega (arith, ik 0 (omega arith)))
      on c (inr z) = inr (z.0, omega (arith, z.1), z.2 ∙ sym (ik z.0 z.1))

  -- what a head line holds is below Head's index
  pub low_cur : (k : ℕ) → k < H → cur k ≤ idx hp
  low_cur k h = by (i.heads k h (hd (cur k)) (i.present k h))
    where
      by : (cur k ≤ idx 0) ⊎ ((p : ℕ) × (p ≤ hp) × (cur k ≡ idx p)) → cur k ≤ idx hp
      by (inl z) = omega (arith, idx_mono idx len rising 0 hp (omega arith) hp_in)
      by (inr z) = omega (arith, z.2, idx_mono idx len rising z.0 hp z.1 hp_in)

  -- there are no more contents than there were
  pub fewer_h : (hh' : ℕ → Node → Type 0) → ((k : ℕ) (c : Node) → hh' k c → hh k c) → ((k : ℕ) → hh' k (hd (cur k))) → HeadP H hp pp idx cur hh'
  fewer_h hh' fewer here = record {
    pp_hp = i.pp_hp;
    heads = λ j h c l. i.heads j h c (fewer j c l);
    present = λ j h. here j;
    plain = λ j h c l. i.plain j h c (fewer j c l);
    anchor = i.anchor;
    anchor_in = i.anchor_in;
    anchored = λ c l. i.anchored c (fewer i.anchor c l);
  }

  -- a head line is raised to the index of a place
  pub raised_h : (hh' : ℕ → Node → Type 0) (k a p : ℕ) (cur' : ℕ → ℕ) → ((j : ℕ) (c : Node) → hh' j c → hh j c ⊎ ((j ≡ k) × (c ≡ hd a)))
      → ((j : ℕ) → hh' j (hd (cur' j))) → p ≤ hp → a ≡ idx p → cur k ≤ a → k < H → HeadP H hp pp idx cur' hh'
  raised_h hh' k a p cur' more here ple e le kh = record {
    pp_hp = i.pp_hp;
    heads = λ j h c l. new j h c (more j c l);
    present = λ j h. here j;
    plain = λ j h c l. flat j h c (more j c l);
    anchor = i.anchor;
    anchor_in = i.anchor_in;
    anchored = λ c l. mark c (more i.anchor c l);
  }
    where
      new : (j : ℕ) → j < H → (c : Node) → hh j c ⊎ ((j ≡ k) × (c ≡ hd a)) → (c.index ≤ idx 0) ⊎ ((p : ℕ) × (p ≤ hp) × (c.index ≡ idx p))
      new j h c (inl l) = i.heads j h c l
      new j h c (inr z) = inr (p, ple, ap (λ y. y.index) z.1 ∙ e)

      flat : (j : ℕ) → j < H → (c : Node) → hh j c ⊎ ((j ≡ k) × (c ≡ hd a)) → c ≡ hd c.index
      flat j h c (inl l) = i.plain j h c l
      flat j h c (inr z) = z.1 ∙ ap hd (sym (ap (λ y. y.index) z.1))

      mark : (c : Node) → hh i.anchor c ⊎ ((i.anchor ≡ k) × (c ≡ hd a)) → idx pp ≤ c.index
      mark c (inl l) = i.anchored c l
      mark c (inr z) = let ix : c.index ≡ a = ap (λ y. y.index) z.1 in
          omega (arith, i.anchored (hd (cur k)) (subst (λ y. hh y (hd (cur k))) (sym z.0) (i.present k kh)))

  -- of a head line nothing older than f is left, f being what some line held: some place is persisted, and f is no newer
  pub record Kept (hh' : ℕ → Node → Type 0) (f : ℕ) : Type 0 where
    pub pp' : ℕ
    pub up : pp ≤ pp'
    pub top : idx pp ≤ idx pp'
    pub reach : f ≤ idx pp'
    pub head : HeadP H hp pp' idx cur hh'

  pub kept_h : (hh' : ℕ → Node → Type 0) (k f : ℕ) → k < H → (f ≤ idx 0) ⊎ ((p : ℕ) × (p ≤ hp) × (f ≡ idx p))
      → ((j : ℕ) (c : Node) → hh' j c → hh j c) → ((j : ℕ) → hh' j (hd (cur j))) → ((c : Node) → hh' k c → f ≤ c.index) → Kept hh' f
  kept_h hh' k f kh fp fewer here low = by fp
    where
      stay : f ≤ idx pp → Kept hh' f
      stay le = record { pp' = pp; up = omega arith; top = omega arith; reach = le; head = fewer_h hh' fewer here }

      lift : (p : ℕ) → p ≤ hp → f ≡ idx p → Dec (p ≤ pp) → Kept hh' f
      lift p h e (yes z) = stay (omega (arith, idx_mono idx len rising p pp z (omega (arith, i.pp_hp))))
      lift p h e (no z) = record {
        pp' = p;
        up = omega arith;
        top = idx_mono idx len rising pp p (omega arith) (omega arith);
        reach = omega arith;
        head = record {
          pp_hp = h;
          heads = λ j h c l. i.heads j h c (fewer j c l);
          present = λ j h. here j;
          plain = λ j h c l. i.plain j h c (fewer j c l);
          anchor = k;
          anchor_in = kh;
          anchored = λ c l. omega (arith, low c l);
        };
      }

      by : (f ≤ idx 0) ⊎ ((p : ℕ) × (p ≤ hp) × (f ≡ idx p)) → Kept hh' f
      by (inl z) = stay (omega (arith, idx_mono idx len rising 0 pp (omega arith) (omega (arith, i.pp_hp))))
      by (inr z) = lift z.0 z.1 z.2 (dec_le z.0 pp)

  -- the head index of an ending is that of a place between the persisted one and Head's
  pub head_h : (f : ℕ → ℕ) → ((k : ℕ) → k < H → hh k (hd (f k))) → (p : ℕ) × (pp ≤ p) × (p ≤ hp) × (largest H f ≡ idx p)
  head_h f c = by (i.heads w.0 w.1 (hd (f w.0)) (c w.0 w.1))
    where
      w : (k : ℕ) × (k < H) × (largest H f ≡ f k)
      w = largest_is H f (omega (arith, i.anchor_in))

      low : idx pp ≤ largest H f
      low = omega (arith, largest_le H f i.anchor i.anchor_in, i.anchored (hd (f i.anchor)) (c i.anchor i.anchor_in))

      by : (f w.0 ≤ idx 0) ⊎ ((p : ℕ) × (p ≤ hp) × (f w.0 ≡ idx p)) → (p : ℕ) × (pp ≤ p) × (p ≤ hp) × (largest H f ≡ idx p)
      by (inl z) = (pp, omega arith, i.pp_hp, omega (arith, low, w.2, idx_mono idx len rising 0 pp (omega arith) (omega (arith, i.pp_hp))))
      by (inr z) = (z.0, back_le pp z.0 (omega (arith, i.pp_hp)) (omega (arith, low, w.2, z.2)), z.1, w.2 ∙ z.2)

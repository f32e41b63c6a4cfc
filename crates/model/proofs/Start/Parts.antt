-- Parts of a start: where a node is by its place in the list, what is so of it there, and the head lines.
use mathlib.Core.Path.{◌≡◌, refl, sym, ap, ◌∙◌}
use mathlib.Core.Bool.{Bool, true, false}
use mathlib.Core.List.{List}
use mathlib.Core.Logic.{◌⊎◌, inl, inr}
use mathlib.Core.Option.{Option, none, some}
use Prim.Native.Nat.{ℕ, zero, suc, ◌≤◌, ◌<◌}
use native.Mathlib.Omega.{arith}
use native.Mathlib.Decide.{dec_lt}
use lib.Dec.{T, ltb, lt→ltb}
use Rattle.model.specs.Basics.{sel}
use Rattle.model.specs.Conf.{line_ix, Engine, shared, split, line_count}
use Rattle.model.specs.Core.{hd, Node}
use Rattle.model.specs.Recovery.{Image, head_of, largest, recovered}
use Rattle.model.proofs.Basics.{yes_of, lt_true}
use Rattle.model.proofs.Layer1.Ghost.{lent, Place, queue, kept, spare, off, Holder, Awaits}
use Rattle.model.proofs.Layer2.Heads.{HeadP, largest_is, largest_le}

-- a node that is not recovered: linked only with an index that the head has passed
pub not_rec : (h : ℕ) (c : Node) → recovered h c ≡ false → c.linked ≡ true → c.index ≤ h
not_rec h c e l = by (dec_lt h c.index)
  where
    by : Dec (h < c.index) → c.index ≤ h
    by (yes z) = let w : recovered h c ≡ true = rw l (yes_of (ltb h c.index) (lt→ltb h c.index z)) in let y : ◌≡◌ {A = ℕ} 0 1 = cc in absurd (omega arith)
    by (no z) = omega arith

-- where a node is after a start; ls are those with another queue
abbrev pub place_of : ℕ → (ℕ → Bool) → ℕ → Option ℕ → Place
place_of N ls n none = sel (ltb n N) (sel (ls n) lent spare) off
place_of N ls n (some p) = queue p

-- ---- a thread that has no operation, a thread that holds none

pub idle_not : {A : Type 0} → ◌≡◌ {A = Bool} false true → A
idle_not e = let z : ◌≡◌ {A = ℕ} 0 1 = cc in absurd (omega arith)

pub none_not : {A : Type 0} (n : ℕ) → ◌≡◌ {A = Option ℕ} none (some n) → A
none_not n e = let z : ◌≡◌ {A = ℕ} 0 1 = cc in absurd (omega arith)

module _ (N : ℕ) (ls : ℕ → Bool) where
  pub holders : (held oe od : ℕ → Option ℕ) (n : ℕ) (o : Option ℕ) → Holder held oe od n (place_of N ls n o)
  holders held oe od n none = by (ltb n N) (ls n)
    where
      by : (b c : Bool) → Holder held oe od n (sel b (sel c lent spare) off)
      by true true = tt
      by true false = tt
      by false c = tt
  holders held oe od n (some p) = tt

  pub waitss : (bz : ℕ → Bool) (base : ℕ → ℕ) (w : List ℕ) (n : ℕ) (o : Option ℕ) → Awaits bz base w (place_of N ls n o)
  waitss bz base w n none = by (ltb n N) (ls n)
    where
      by : (b c : Bool) → Awaits bz base w (sel b (sel c lent spare) off)
      by true true = tt
      by true false = tt
      by false c = tt
  waitss bz base w n (some p) = tt

  pub not_kept : (n : ℕ) (o : Option ℕ) {t r : ℕ} → place_of N ls n o ≡ kept t r → ⊥
  not_kept n none e = by (ltb n N) (ls n) e
    where
      by : (b c : Bool) {t r : ℕ} → sel b (sel c lent spare) off ≡ kept t r → ⊥
      by true true e = let z : ◌≡◌ {A = ℕ} 0 1 = cc in omega arith
      by true false e = let z : ◌≡◌ {A = ℕ} 0 1 = cc in omega arith
      by false c e = let z : ◌≡◌ {A = ℕ} 0 1 = cc in omega arith
  not_kept n (some p) e = let z : ◌≡◌ {A = ℕ} 0 1 = cc in omega arith

  pub is_lent : (n : ℕ) (o : Option ℕ) → place_of N ls n o ≡ lent → ls n ≡ true
  is_lent n none e = by (ltb n N) (ls n) e
    where
      by : (b c : Bool) → sel b (sel c lent spare) off ≡ lent → c ≡ true
      by true true e = refl
      by true false e = let z : ◌≡◌ {A = ℕ} 0 1 = cc in absurd (omega arith)
      by false c e = let z : ◌≡◌ {A = ℕ} 0 1 = cc in absurd (omega arith)
  is_lent n (some p) e = let z : ◌≡◌ {A = ℕ} 0 1 = cc in absurd (omega arith)

  pub inside₀ : (n : ℕ) (o : Option ℕ) → place_of N ls n o ≡ off → N ≤ n
  inside₀ n (some p) e = let z : ◌≡◌ {A = ℕ} 0 1 = cc in absurd (omega arith)
  inside₀ n none e = by (dec_lt n N)
    where
      not_off : (c : Bool) → sel c lent spare ≡ off → ⊥
      not_off true e = let z : ◌≡◌ {A = ℕ} 0 1 = cc in omega arith
      not_off false e = let z : ◌≡◌ {A = ℕ} 0 1 = cc in omega arith

      by : Dec (n < N) → N ≤ n
      by (yes h) = let e' : sel (ls n) lent spare ≡ off = rw (lt_true n N h) at e in absurd (not_off (ls n) e')
      by (no h) = omega arith

module _ (g : Image) (idx : ℕ → ℕ) (i₀ : idx 0 ≡ head_of g) where
  -- the head lines: one of them has the largest index
  pub heads₀ : (E : Engine) (T : ℕ) (hh : ℕ → Node → Type 0)
      → ((k : ℕ) (c : Node) → hh k c → (c ≡ hd (g.heads k)) ⊎ (c ≡ hd (line_ix E (head_of g) g.heads k)))
      → ((k : ℕ) → hh k (hd (line_ix E (head_of g) g.heads k))) → 0 < line_count E T → head_of g ≡ largest (line_count E T) g.heads
      → HeadP (line_count E T) 0 0 idx (line_ix E (head_of g) g.heads) hh
  heads₀ E T hh only here h e = record {
    pp_hp = omega arith;
    heads = λ k l c z. inl (omega (arith, i₀, below k l c (only k c z)));
    present = λ k l. here k;
    plain = λ k l c z. flat c (g.heads k) (line_ix E (head_of g) g.heads k) (only k c z);
    anchor = w.0;
    anchor_in = w.1;
    anchored = λ c z. omega (arith, i₀, high c (only w.0 c z));
  }
    where
      w : (k : ℕ) × (k < line_count E T) × (largest (line_count E T) g.heads ≡ g.heads k)
      w = largest_is (line_count E T) g.heads h

      flat : (c : Node) (i j : ℕ) → (c ≡ hd i) ⊎ (c ≡ hd j) → c ≡ hd c.index
      flat c i j (inl z) = z ∙ ap hd (sym (ap (λ y. y.index) z))
      flat c i j (inr z) = z ∙ ap hd (sym (ap (λ y. y.index) z))

      ix : (E : Engine) (k : ℕ) → (line_ix E (head_of g) g.heads k ≡ head_of g) ⊎ (line_ix E (head_of g) g.heads k ≡ g.heads k)
      ix shared zero = inl refl
      ix shared (suc k) = inr refl
      ix split k = inr refl

      below : (k : ℕ) → k < line_count E T → (c : Node) → (c ≡ hd (g.heads k)) ⊎ (c ≡ hd (line_ix E (head_of g) g.heads k)) → c.index ≤ head_of g
      below k l c (inl z) = omega (arith, ap (λ y. y.index) z, largest_le (line_count E T) g.heads k l, e)
      below k l c (inr z) = on (ix E k)
        where
          on : (line_ix E (head_of g) g.heads k ≡ head_of g) ⊎ (line_ix E (head_of g) g.heads k ≡ g.heads k) → c.index ≤ head_of g
          on (inl y) = omega (arith, ap (λ y. y.index) z, y)
          on (inr y) = omega (arith, ap (λ y. y.index) z, y, largest_le (line_count E T) g.heads k l, e)

      high : (c : Node) → (c ≡ hd (g.heads w.0)) ⊎ (c ≡ hd (line_ix E (head_of g) g.heads w.0)) → head_of g ≤ c.index
      high c (inl z) = omega (arith, ap (λ y. y.index) z, e, w.2)
      high c (inr z) = on (ix E w.0)
        where
          on : (line_ix E (head_of g) g.heads w.0 ≡ head_of g) ⊎ (line_ix E (head_of g) g.heads w.0 ≡ g.heads w.0) → head_of g ≤ c.index
          on (inl y) = omega (arith, ap (λ y. y.index) z, y)
          on (inr y) = omega (arith, ap (λ y. y.index) z, y, e, w.2)

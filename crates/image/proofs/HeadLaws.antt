-- Laws of the head lines' indices.
use Prim.Native.Nat.{ℕ, zero, suc, ◌≤◌, ◌<◌, max}
use mathlib.Core.Path.{◌≡◌, refl, sym, ap, ◌∙◌}
use mathlib.Core.Logic.{◌≢◌}
use native.Mathlib.Decide.{dec_lt, ℕ_discrete}
use mathlib.Core.Bool.{true}
use mathlib.Core.List.{List}
use native.Mathlib.Omega.{arith}
use native.Mathlib.Numerals.{add-one}
use lib.ListN.{length, get_or, take}
use Rattle.std.specs.List.{fold}
use Rattle.std.proofs.lemmas.List.Sums.{fold_more}
use lib.Dec.{eqb, leb, ltb}
use borrow.Author.Tests.{lt-ltb, le-ltb, leb-true, eq-eqb}
use Rattle.lists.specs.Find.{pick}
use Rattle.lists.proofs.TabLaws as tabs
use Rattle.lists.proofs.BoolLaws.{both_true}
use Rattle.image.specs.Form.{Form, plain, wide, pair, desks, form_of, head_count, head_lines, per_desk}
use Rattle.image.specs.Layout.{content_at, image_shape, no_heads, head_in, heads_of}
use Rattle.image.specs.Recovered.{largest, head_of, recovered, recovered_at}
use Rattle.image.specs.Refusals.{own_fit}
use Rattle.image.specs.declared.Image.{Image}
use Rattle.image.specs.declared.Shape.{Shape}

-- ---- how many head lines there are

pub lines_desks : (z : Shape) → z.form ≡ 4 → z.t ≡ head_lines z
unfolding head_lines
lines_desks z e = rw e

pub lines_pair : (z : Shape) → z.form ≡ 3 → 2 ≡ head_lines z
unfolding head_lines
lines_pair z e = rw e

pub lines_one : (z : Shape) → z.form ≢ 4 → z.form ≢ 3 → 1 ≡ head_lines z
unfolding head_lines
lines_one z a b = by z.form a b
  where
    by : (f : ℕ) → f ≢ 4 → f ≢ 3 → 1 ≡ head_count (form_of f) z.t
    by zero a b = refl
    by (suc zero) a b = refl
    by (suc (suc zero)) a b = refl
    by (suc (suc (suc zero))) a b = absurd (b refl)
    by (suc (suc (suc (suc zero)))) a b = absurd (a refl)
    by (suc (suc (suc (suc (suc f))))) a b = refl

-- they go by the form, and by T where each desk has one
pub lines_same : (f n t m u : ℕ) → (per_desk f ≡ true → t ≡ u) → head_lines (record { form = f; n = n; t = t }) ≡ head_lines (record { form = f; n = m; t = u })
unfolding head_lines per_desk
lines_same f n t m u h = by f h
  where
    by : (f : ℕ) → (eqb f 4 ≡ true → t ≡ u) → head_count (form_of f) t ≡ head_count (form_of f) u
    by zero h = refl
    by (suc zero) h = refl
    by (suc (suc zero)) h = refl
    by (suc (suc (suc zero))) h = refl
    by (suc (suc (suc (suc zero)))) h = h refl
    by (suc (suc (suc (suc (suc f))))) h = refl

-- they are at most eight where T is, and where T is tested if an image holds it
pub lines_few : (z : Shape) → z.t ≤ 8 → head_lines z ≤ 8
unfolding head_lines
lines_few z h = by (form_of z.form)
  where
    by : (f : Form) → head_count f z.t ≤ 8
    by plain = omega arith
    by wide = omega arith
    by pair = omega arith
    by desks = h

pub own_few : (z : Shape) → own_fit z ≡ true → head_lines z ≤ 8
unfolding per_desk
own_few z = by (ℕ_discrete z.form 4)
  where
    by : Dec (z.form ≡ 4) → own_fit z ≡ true → head_lines z ≤ 8
    by (yes e) h = lines_few z (leb-true z.t 8 (both_true (leb 1 z.t) (leb z.t 8) (rw (eq-eqb z.form 4 e) at h)).1)
    by (no ne) h = other (ℕ_discrete z.form 3)
      where
        other : Dec (z.form ≡ 3) → head_lines z ≤ 8
        other (yes e) = omega (arith, lines_pair z e)
        other (no w) = omega (arith, lines_one z ne w)

-- there is one at least, where T is one at least
pub lines_some : (z : Shape) → 1 ≤ z.t → 1 ≤ head_lines z
unfolding head_lines
lines_some z h = by (form_of z.form)
  where
    by : (f : Form) → 1 ≤ head_count f z.t
    by plain = omega arith
    by wide = omega arith
    by pair = omega arith
    by desks = h

pub length_no_heads : length no_heads ≡ 8
unfolding no_heads
length_no_heads = refl

-- ---- a table of indices

pub heads_at_lem : (z : Shape) (x : ℕ → ℕ) (k : ℕ) → k < head_lines z → get_or (heads_of z x) k 0 ≡ x k
unfolding heads_of
heads_at_lem z x k h = tabs.front_at x (head_lines z) no_heads k 0 h

pub heads_length : (z : Shape) (x : ℕ → ℕ) → head_lines z ≤ 8 → length (heads_of z x) ≡ 8
unfolding heads_of
heads_length z x h = tabs.front_size x (head_lines z) no_heads (omega (arith, h, length_no_heads)) ∙ length_no_heads

pub heads_same : (z : Shape) (x y : ℕ → ℕ) → ((k : ℕ) → k < head_lines z → x k ≡ y k) → heads_of z x ≡ heads_of z y
unfolding heads_of
heads_same z x y h = tabs.front_same x y (head_lines z) no_heads h

-- ---- the largest

-- a fold over the first n of them
max_pick : (r x : ℕ) → max r x ≡ pick (ltb r x) x r
max_pick r x = by (dec_lt r x)
  where
    by : Dec (r < x) → max r x ≡ pick (ltb r x) x r
    by (yes h) = rw (lt-ltb r x h) (omega arith)
    by (no h) = rw (le-ltb r x (omega arith)) (omega arith)

pub largest_fold : (l : List ℕ) (n : ℕ) → n ≤ length l → fold (λ r x. max r x) 0 (take n l) ≡ largest l n
unfolding largest
largest_fold l zero h = refl
largest_fold l (suc n) h =
    ap (λ (k : ℕ). fold (λ r x. max r x) 0 (take k l)) (sym (add-one n)) ∙ fold_more (λ r x. max r x) 0 l n 0 (omega arith)
    ∙ ap (λ (r : ℕ). max r (get_or l n 0)) (largest_fold l n (omega arith)) ∙ max_pick (largest l n) (get_or l n 0)

-- the largest of as many goes by those alone
pub largest_same : (l m : List ℕ) (k : ℕ) → ((j : ℕ) → j < k → get_or l j 0 ≡ get_or m j 0) → largest l k ≡ largest m k
unfolding largest
largest_same l m zero h = refl
largest_same l m (suc k) h =
    let e = largest_same l m k (λ j q. h j (omega arith)) in
    rw (e, h k (omega arith))

-- none of them is above it
pub largest_most : (l : List ℕ) (k j : ℕ) → j < k → get_or l j 0 ≤ largest l k
unfolding largest
largest_most l zero j h = absurd (omega arith)
largest_most l (suc k) j h = by (largest_most l k j) (dec_lt j k) (dec_lt (largest l k) (get_or l k 0))
  where
    by : (j < k → get_or l j 0 ≤ largest l k) → Dec (j < k) → Dec (largest l k < get_or l k 0)
        → get_or l j 0 ≤ pick (ltb (largest l k) (get_or l k 0)) (get_or l k 0) (largest l k)
    by r (yes p) (yes q) = rw (lt-ltb (largest l k) (get_or l k 0) q) (omega (arith, r p))
    by r (yes p) (no q) = rw (le-ltb (largest l k) (get_or l k 0) (omega arith)) (r p)
    by r (no p) (yes q) = rw (lt-ltb (largest l k) (get_or l k 0) q) (let e : j ≡ k = omega arith in rw e (omega arith))
    by r (no p) (no q) = rw (le-ltb (largest l k) (get_or l k 0) (omega arith)) (let e : j ≡ k = omega arith in rw e (omega arith))

-- it is one of them, or there is none
pub largest_within : (l : List ℕ) (k b : ℕ) → ((j : ℕ) → j < k → get_or l j 0 ≤ b) → largest l k ≤ b
unfolding largest
largest_within l zero b h = omega arith
largest_within l (suc k) b h = by (dec_lt (largest l k) (get_or l k 0)) (largest_within l k b (λ j q. h j (omega arith)))
  where
    by : Dec (largest l k < get_or l k 0) → largest l k ≤ b → pick (ltb (largest l k) (get_or l k 0)) (get_or l k 0) (largest l k) ≤ b
    by (yes q) r = rw (lt-ltb (largest l k) (get_or l k 0) q) (h k (omega arith))
    by (no q) r = rw (le-ltb (largest l k) (get_or l k 0) (omega arith)) r

pub head_within : (g : Image) (b : ℕ) → ((k : ℕ) → k < head_lines (image_shape g) → head_in g k ≤ b) → head_of g ≤ b
unfolding head_of
head_within g b h = largest_within g.heads (head_lines (image_shape g)) b h

pub recovered_by : (g : Image) (i : ℕ) → recovered_at g i ≡ recovered (largest g.heads (head_lines (image_shape g))) (content_at g.nodes i)
unfolding head_of
recovered_by g i = refl

pub head_is : (g : Image) → largest g.heads (head_lines (image_shape g)) ≡ head_of g
unfolding head_of
head_is g = refl

-- the head index goes by the head lines alone
pub head_same : (g g' : Image) → head_lines (image_shape g) ≡ head_lines (image_shape g') → ((k : ℕ) → k < head_lines (image_shape g) → head_in g k ≡ head_in g' k) → head_of g ≡ head_of g'
unfolding head_of
head_same g g' e h = largest_same g.heads g'.heads (head_lines (image_shape g)) h ∙ ap (largest g'.heads) e

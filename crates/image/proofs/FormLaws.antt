-- Laws of forms: the largest index, the places of nodes, the searches for an index that does not fit.
use Prim.Native.Nat.{ℕ, zero, suc, ◌+◌, ◌-◌, ◌*◌, ◌^◌, ◌≤◌, ◌<◌}
use mathlib.Core.Path.{◌≡◌, refl, sym, subst, ◌∙◌}
use mathlib.Core.Bool.{Bool, true, false}
use mathlib.Core.List.{List}
use mathlib.Core.Logic.{◌≢◌, ◌⊎◌, inl, inr}
use native.Mathlib.Omega.{arith}
use native.Mathlib.Nat.{add-mul, one-mul, mul-le-mul_right}
use borrow.Author.Tests.{lt-ltb, le-ltb, leb-true, eqb-true, eq-eqb, ne_eqb}
use lib.Dec.{leb, ltb, eqb}
use lib.ListN.{get_or}
use Rattle.lists.specs.Find.{pick, both, least, any}
use Rattle.lists.proofs.BoolLaws.{no_way, both_true}
use Rattle.image.specs.Form.{Form, plain, wide, pair, desks, form_of, known, width, heads_place, letter, version}
use Rattle.image.specs.Form.{width_of, top_of, heads_at, node_size, head_lines, header_size, node_place, image_size, per_desk}
use Rattle.image.specs.Bytes.{at1}
use Rattle.image.specs.Layout.{content_at, image_shape, marked, form_in, is_image}
use Rattle.image.specs.Recovered.{head_too_wide, first_too_wide}
use Rattle.answer.specs.Answers.{Taken, Narrow}
use Rattle.image.specs.Refusals.{own_fit, fitting}
use Rattle.image.specs.declared.Image.{Image}
use Rattle.image.specs.declared.Shape.{Shape}

-- ---- the largest index

pub top_long : (f : ℕ) → f ≡ 2 → top_of f ≡ 18446744073709551615
unfolding top_of width_of
top_long f e = rw e

pub top_wide : (f : ℕ) → 2 ≤ f → f < 4 → top_of f ≡ 18446744073709551615
unfolding top_of width_of
top_wide zero a b = absurd (omega arith)
top_wide (suc zero) a b = absurd (omega arith)
top_wide (suc (suc zero)) a b = refl
top_wide (suc (suc (suc zero))) a b = refl
top_wide (suc (suc (suc (suc f)))) a b = absurd (omega arith)

pub top_short : (f : ℕ) → f ≢ 2 → f ≢ 3 → top_of f ≡ 4294967295
unfolding top_of width_of
top_short zero a b = refl
top_short (suc zero) a b = refl
top_short (suc (suc zero)) a b = absurd (a refl)
top_short (suc (suc (suc zero))) a b = absurd (b refl)
top_short (suc (suc (suc (suc zero)))) a b = refl
top_short (suc (suc (suc (suc (suc f))))) a b = refl

-- it is one of 64 bits
pub top_small : (f : ℕ) → top_of f < 18446744073709551616
unfolding top_of width_of
top_small f = by (form_of f)
  where
    by : (x : Form) → 256 ^ width x - 1 < 18446744073709551616
    by plain = omega arith
    by wide = omega arith
    by pair = omega arith
    by desks = omega arith

-- ---- the forms that are read

pub known_is : (f : ℕ) → known f ≡ true → (f ≡ 1) ⊎ (f ≡ 2) ⊎ (f ≡ 4)
unfolding known
known_is f = by (eqb f 1) (eqb f 2) refl refl
  where
    by : (b c : Bool) → eqb f 1 ≡ b → eqb f 2 ≡ c → pick b true (pick c true (eqb f 4)) ≡ true → (f ≡ 1) ⊎ (f ≡ 2) ⊎ (f ≡ 4)
    by true c e d h = inl (eqb-true f 1 e)
    by false true e d h = inr (inl (eqb-true f 2 d))
    by false false e d h = inr (inr (eqb-true f 4 h))

pub known_low : (f : ℕ) → 1 ≤ f → f < 3 → true ≡ known f
unfolding known
known_low zero a b = absurd (omega arith)
known_low (suc zero) a b = refl
known_low (suc (suc zero)) a b = refl
known_low (suc (suc (suc f))) a b = absurd (omega arith)

pub known_four : (f : ℕ) → f ≡ 4 → true ≡ known f
unfolding known
known_four f e = rw e

pub known_none : (f : ℕ) → f ≢ 1 → f ≢ 2 → f ≢ 4 → false ≡ known f
unfolding known
known_none f a b d = rw (ne_eqb f 1 a, ne_eqb f 2 b, ne_eqb f 4 d)

-- what is so of each of them
pub by_form : (P : ℕ → Type 0) (f : ℕ) → known f ≡ true → P 1 → P 2 → P 4 → P f
by_form P f h p q r = by (known_is f h)
  where
    by : (f ≡ 1) ⊎ (f ≡ 2) ⊎ (f ≡ 4) → P f
    by (inl e) = subst P (sym e) p
    by (inr (inl e)) = subst P (sym e) q
    by (inr (inr e)) = subst P (sym e) r

-- "UQI" version 1
pub form_plain : (f : ℕ) → known f ≡ true → f ≢ 2 → f ≢ 4 → f ≡ 1
form_plain f h = by_form (λ f. f ≢ 2 → f ≢ 4 → f ≡ 1) f h (λ a b. refl) (λ a b. absurd (a refl)) (λ a b. absurd (b refl))

pub width_wide : (f : ℕ) → f ≡ 2 → width_of f ≡ 8
unfolding width_of
width_wide f e = rw e

pub width_plain : (f : ℕ) → known f ≡ true → f ≢ 2 → width_of f ≡ 4
unfolding width_of
width_plain f h = by_form (λ f. f ≢ 2 → width_of f ≡ 4) f h (λ a. refl) (λ a. absurd (a refl)) (λ a. refl)

pub place_wide : (z : Shape) (i : ℕ) → z.form ≡ 2 → node_place z i ≡ 14 + i * 13
unfolding node_place header_size node_size heads_at width_of head_lines
place_wide z i e = rw e

pub place_desks : (z : Shape) (i : ℕ) → z.form ≡ 4 → node_place z i ≡ 7 + z.t * 4 + i * 9
unfolding node_place header_size node_size heads_at width_of head_lines
place_desks z i e = rw e

pub place_plain : (z : Shape) (i : ℕ) → known z.form ≡ true → z.form ≢ 2 → z.form ≢ 4 → node_place z i ≡ 10 + i * 9
unfolding node_place header_size node_size heads_at width_of head_lines
place_plain z i h a b = rw (form_plain z.form h a b)

pub size_is : (f : ℕ) → known f ≡ true → node_size f ≡ 1 + width_of f + 4
unfolding node_size width_of
size_is f h = by_form (λ f. node_size f ≡ 1 + width_of f + 4) f h refl refl refl

-- the indices of the head lines stand behind what is in front of them
pub heads_few : (f : ℕ) → (6 ≤ heads_at f) × (heads_at f ≤ 7)
unfolding heads_at
heads_few f = by (form_of f)
  where
    by : (x : Form) → (6 ≤ heads_place x) × (heads_place x ≤ 7)
    by plain = (omega arith, omega arith)
    by wide = (omega arith, omega arith)
    by pair = (omega arith, omega arith)
    by desks = (omega arith, omega arith)

pub header_is : (z : Shape) → header_size z ≡ heads_at z.form + head_lines z * width_of z.form
unfolding header_size
header_is z = refl

pub width_few : (f : ℕ) → known f ≡ true → (4 ≤ width_of f) × (width_of f ≤ 8)
unfolding width_of
width_few f h = by_form (λ f. (4 ≤ width_of f) × (width_of f ≤ 8)) f h (omega arith, omega arith) (omega arith, omega arith) (omega arith, omega arith)

-- an image has at least 10 bytes where T is 1 at least, and at most 846 where it is at most 8
pub place_most : (z : Shape) (n : ℕ) → known z.form ≡ true → n ≤ 64 → own_fit z ≡ true → (10 ≤ node_place z n) × (node_place z n ≤ 846)
unfolding per_desk
place_most z n h l o = by (known_is z.form h)
  where
    by : (z.form ≡ 1) ⊎ (z.form ≡ 2) ⊎ (z.form ≡ 4) → (10 ≤ node_place z n) × (node_place z n ≤ 846)
    by (inl e) = let p = place_plain z n h (λ q. omega (arith, e, q)) (λ q. omega (arith, e, q)) in (omega (arith, p), omega (arith, p))
    by (inr (inl e)) = let p = place_wide z n e in (omega (arith, p), omega (arith, p))
    by (inr (inr e)) =
        let p = place_desks z n e in
        let t = both_true (leb 1 z.t) (leb z.t 8) (rw (eq-eqb z.form 4 e) at o) in
        (omega (arith, p, leb-true 1 z.t t.0), omega (arith, p, leb-true z.t 8 t.1))

pub place_zero : (z : Shape) → node_place z 0 ≡ header_size z
unfolding node_place
place_zero z = omega arith

pub place_from : (z : Shape) (i : ℕ) → node_place z i ≡ header_size z + i * node_size z.form
unfolding node_place
place_from z i = refl

pub size_at : (z : Shape) → node_place z z.n ≡ image_size z
unfolding image_size
size_at z = refl

-- ---- the form that bytes have

-- the letter and the version of a mark
marked_bytes : (c v : ℕ) (s : List ℕ) → marked 85 81 c v s ≡ true → (at1 s 2 ≡ c) × (at1 s 3 ≡ v)
unfolding marked
marked_bytes x v s h =
    let a = both_true (eqb (at1 s 0) 85) (both (eqb (at1 s 1) 81) (both (eqb (at1 s 2) x) (both (eqb (at1 s 3) v) (eqb (at1 s 4) 0)))) h in
    let b = both_true (eqb (at1 s 1) 81) (both (eqb (at1 s 2) x) (both (eqb (at1 s 3) v) (eqb (at1 s 4) 0))) a.1 in
    let c = both_true (eqb (at1 s 2) x) (both (eqb (at1 s 3) v) (eqb (at1 s 4) 0)) b.1 in
    let d = both_true (eqb (at1 s 3) v) (eqb (at1 s 4) 0) c.1 in
    (eqb-true (at1 s 2) x c.0, eqb-true (at1 s 3) v d.0)

-- the bytes have the mark of form f
abbrev pub has_mark : ℕ → List ℕ → Bool
has_mark f s = marked 85 81 (letter (form_of f)) (version (form_of f)) s

pub form_marked : (s : List ℕ) → is_image s ≡ true → has_mark (form_in s) s ≡ true
unfolding form_in known
form_marked s = by (marked 85 81 73 1 s) (marked 85 81 73 2 s) (marked 85 81 80 1 s) refl refl refl
  where
    by : (a b c : Bool) → marked 85 81 73 1 s ≡ a → marked 85 81 73 2 s ≡ b → marked 85 81 80 1 s ≡ c
        → known (pick a 1 (pick b 2 (pick c 4 0))) ≡ true → has_mark (pick a 1 (pick b 2 (pick c 4 0))) s ≡ true
    by true b c e g i h = e
    by false true c e g i h = g
    by false false true e g i h = i
    by false false false e g i h = no_way (sym h)

-- bytes of one form are not of another
not_one : (s : List ℕ) (c v : ℕ) → marked 85 81 c v s ≡ true → (d w : ℕ) → (c ≢ d) ⊎ (v ≢ w) → marked 85 81 d w s ≡ false
not_one s c v h d w ne = by (marked 85 81 d w s) refl ne
  where
    by : (b : Bool) → marked 85 81 d w s ≡ b → (c ≢ d) ⊎ (v ≢ w) → b ≡ false
    by false e n = refl
    by true e (inl n) = absurd (n (sym (marked_bytes c v s h).0 ∙ (marked_bytes d w s e).0))
    by true e (inr n) = absurd (n (sym (marked_bytes c v s h).1 ∙ (marked_bytes d w s e).1))

pub marked_form : (f : ℕ) (s : List ℕ) → known f ≡ true → has_mark f s ≡ true → form_in s ≡ f
unfolding form_in
marked_form f s h =
    by_form
    (λ f. has_mark f s ≡ true → form_in s ≡ f)
    f
    h
    (λ m. rw m)
    (λ m. rw (not_one s 73 2 m 73 1 (inr (λ e. omega (arith, e))), m))
    (λ m. rw (not_one s 80 1 m 73 1 (inl (λ e. omega (arith, e))), not_one s 80 1 m 73 2 (inl (λ e. omega (arith, e))), m))

-- ---- the places of nodes, linear for whoever uses them

pub place_next : (z : Shape) (i : ℕ) → node_place z (i + 1) ≡ node_place z i + node_size z.form
unfolding node_place
place_next z i = let k = node_size z.form in omega (arith, add-mul i 1 k, one-mul k)

pub place_within : (z : Shape) (i n : ℕ) → i < n → node_place z i + node_size z.form ≤ node_place z n
unfolding node_place
place_within z i n h =
    let k = node_size z.form in
    let e : (i + 1) * k ≤ n * k = mul-le-mul_right k (omega arith) in
    omega (arith, add-mul i 1 k, one-mul k, e)

-- ---- the searches

-- ---- 20

-- the first index of a node that does not fit, by the largest that was read
abbrev pub above : ℕ → Image → ℕ → Bool
above top g i = ltb top (content_at g.nodes i).index

pub too_wide_by : (g : Image) (top : ℕ) → top ≡ top_of g.form → least (above top g) g.n 0 ≡ first_too_wide g
unfolding first_too_wide
too_wide_by g top e = rw e refl

pub fitting_head : (g : Image) → head_too_wide g ≡ true → Narrow g.n ≡ fitting g Taken
unfolding fitting
fitting_head g e = rw e

pub fitting_node : (g : Image) (i : ℕ) → head_too_wide g ≡ false → first_too_wide g ≡ i → i < g.n → Narrow i ≡ fitting g Taken
unfolding fitting
fitting_node g i e f h = rw (e, f, lt-ltb i g.n h)

pub fitting_all : (g : Image) → head_too_wide g ≡ false → g.n ≤ first_too_wide g → Taken ≡ fitting g Taken
unfolding fitting
fitting_all g e h = rw (e, le-ltb (first_too_wide g) g.n h)

-- of the head lines, by the numbers that the code asks with
pub head_wide_by : (g : Image) (top lines : ℕ) (r : Bool) → top ≡ top_of g.form → lines ≡ head_lines (image_shape g)
    → r ≡ any (λ k. ltb top (get_or g.heads k 0)) lines → r ≡ head_too_wide g
unfolding head_too_wide
head_wide_by g top lines r e l h = h ∙ rw (e, l)

-- Lines that f gives by their number: those from line k on, one behind the other, and how many of them fit.
use Prim.Native.Nat.{ℕ, zero, suc, ◌+◌, ◌-◌, ◌≤◌, ◌<◌}
use mathlib.Core.Path.{◌≡◌, refl, sym, ap, ap₂, subst, ◌∙◌}
use mathlib.Core.List.{List, [], ◌++◌, append_assoc, append-nil}
use native.Mathlib.Omega.{arith}
use native.Mathlib.Decide.{dec_lt}
use native.Mathlib.Nat.{add-zero, add-suc, add_assoc}
use native.Mathlib.Numerals.{add-one}
use borrow.Author.Tests.{lt-ltb, le-ltb}
use lib.ListN.{length, length-append}
use Rattle.lists.specs.Tab.{joined, over}
use Rattle.page.specs.Filled.{lines_on, fitting}
use Rattle.printing.specs.Lines.{if_fits}
use Rattle.printing.proofs.Written.{Put, then}

-- ---- one text

pub fits_yes : (room : ℕ) (l : List ℕ) → length l ≤ room → if_fits room l ≡ l
unfolding if_fits
fits_yes room l h = rw (le-ltb room (length l) h, if_fits) refl

pub fits_no : (room : ℕ) (l : List ℕ) → room < length l → if_fits room l ≡ []
unfolding if_fits
fits_no room l h = rw (lt-ltb room (length l) h, if_fits) refl

pub fits_within : (room : ℕ) (l : List ℕ) → length (if_fits room l) ≤ room
fits_within room l = by (dec_lt room (length l))
  where
    by : Dec (room < length l) → length (if_fits room l) ≤ room
    by (yes h) = omega (arith, ap length (fits_no room l h))
    by (no h) = omega (arith, ap length (fits_yes room l (omega arith)))

-- what is put where a text does not fit
pub put_none : (b : List ℕ) (at : ℕ) (room : ℕ) (l : List ℕ) → room < length l → Put b at (if_fits room l) b at
unfolding over
put_none b at room l h = subst (λ s. Put b at s b at) (sym (fits_no room l h)) (omega arith, refl)

-- and where it fits
pub put_all : (b : List ℕ) (at : ℕ) (room : ℕ) (l : List ℕ) {m : List ℕ} {p : ℕ} → length l ≤ room → Put b at l m p → Put b at (if_fits room l) m p
put_all b at room l {m} {p} h x = subst (λ s. Put b at s m p) (sym (fits_yes room l h)) x

-- a place behind says whether it did: no line is empty
pub put_left : (b : List ℕ) (at : ℕ) (room : ℕ) (l : List ℕ) {m : List ℕ} {p : ℕ} → Put b at (if_fits room l) m p → p ≡ at → 0 < length l → (room < length l) × (m ≡ b)
unfolding over
put_left b at room l {m} {p} x e n = by (dec_lt room (length l))
  where
    by : Dec (room < length l) → (room < length l) × (m ≡ b)
    by (yes h) = (h, x.1 ∙ ap (over b at) (fits_no room l h))
    by (no h) = absurd (omega (arith, x.0, ap length (fits_yes room l (omega arith))))

pub put_taken : (b : List ℕ) (at : ℕ) (room : ℕ) (l : List ℕ) {m : List ℕ} {p : ℕ} → Put b at (if_fits room l) m p → (p ≡ at → ⊥) → (length l ≤ room) × Put b at l m p
put_taken b at room l {m} {p} x e = by (dec_lt room (length l))
  where
    by : Dec (room < length l) → (length l ≤ room) × Put b at l m p
    by (yes h) = absurd (e (omega (arith, x.0, ap length (fits_no room l h))))
    by (no h) =
        let g : length l ≤ room = omega arith in
        (g, subst (λ s. Put b at s m p) (fits_yes room l g) x)

module _ (f : ℕ → List ℕ) where
  -- ---- lines joined

  pub on_none : (k : ℕ) → lines_on f k 0 ≡ []
  unfolding lines_on joined
  on_none k = refl

  on_more : (k c : ℕ) → lines_on f k (suc c) ≡ lines_on f k c ++ f (k + c)
  unfolding lines_on joined
  on_more k c = refl

  -- line k behind those from `from` on
  pub on_next : (from k : ℕ) → from ≤ k → lines_on f from (k + 1 - from) ≡ lines_on f from (k - from) ++ f k
  on_next from k h =
      let e : k + 1 - from ≡ suc (k - from) = omega arith in
      let g : from + (k - from) ≡ k = omega arith in
      ap (lines_on f from) e ∙ on_more from (k - from) ∙ ap (λ n. lines_on f from (k - from) ++ f n) g

  pub on_start : (from : ℕ) (b : List ℕ) (at : ℕ) → Put b at (lines_on f from (from - from)) b at
  unfolding over
  on_start from b at =
      let e : from - from ≡ 0 = omega arith in
      subst (λ s. Put b at s b at) (sym (ap (lines_on f from) e ∙ on_none from)) (omega arith, refl)

  -- line k written behind those written
  pub on_put : (from k : ℕ) (b : List ℕ) (at : ℕ) {m : List ℕ} {p : ℕ} {n : List ℕ} {q : ℕ} → from ≤ k
      → Put b at (lines_on f from (k - from)) m p → Put m p (f k) n q → Put b at (lines_on f from (k + 1 - from)) n q
  on_put from k b at {m} {p} {n} {q} h x y =
      subst (λ s. Put b at s n q) (sym (on_next from k h)) (then b at (lines_on f from (k - from)) (f k) x y)

  -- two stretches, one behind the other
  pub on_join : (k c e : ℕ) → lines_on f k (c + e) ≡ lines_on f k c ++ lines_on f (k + c) e
  on_join k c zero =
      ap (lines_on f k) (add-zero c)
      ∙ sym (append-nil (lines_on f k c))
      ∙ ap (λ r. lines_on f k c ++ r) (sym (on_none (k + c)))
  on_join k c (suc e) =
      ap (lines_on f k) (add-suc c e)
      ∙ on_more k (c + e)
      ∙ ap₂ (λ r n. r ++ f n) (on_join k c e) (sym (add_assoc k c e))
      ∙ append_assoc (lines_on f k c) (lines_on f (k + c) e) (f (k + c + e))
      ∙ ap (λ r. lines_on f k c ++ r) (sym (on_more (k + c) e))

  on_one : (k : ℕ) → lines_on f k 1 ≡ f k
  unfolding lines_on joined
  on_one k = ap f (add-zero k)

  -- the first of them, and the others
  pub on_cons : (k c : ℕ) → lines_on f k (suc c) ≡ f k ++ lines_on f (suc k) c
  on_cons k c =
      let e : suc c ≡ 1 + c = omega arith in
      ap (lines_on f k) e ∙ on_join k 1 c ∙ ap₂ (λ r n. r ++ lines_on f n c) (on_one k) (add-one k)

  -- ---- how many fit

  fit_no : (k c room : ℕ) → room < length (f k) → fitting f k (suc c) room ≡ 0
  unfolding fitting
  fit_no k c room h = rw (lt-ltb room (length (f k)) h, fitting) refl

  fit_yes : (k c room : ℕ) → length (f k) ≤ room → fitting f k (suc c) room ≡ suc (fitting f (suc k) c (room - length (f k)))
  unfolding fitting
  fit_yes k c room h = rw (le-ltb room (length (f k)) h, fitting) refl

  fit_zero : (k room : ℕ) → fitting f k 0 room ≡ 0
  unfolding fitting
  fit_zero k room = refl

  -- ---- of the lines from k on and below `to`, at the code's numbers

  pub fit_end : (k to room : ℕ) → to ≤ k → k + fitting f k (to - k) room ≡ k
  fit_end k to room h =
      let e : to - k ≡ 0 = omega arith in
      omega (arith, ap (λ c. fitting f k c room) e, fit_zero k room)

  pub fit_full : (k to room : ℕ) → k < to → room < length (f k) → fitting f k (to - k) room ≡ 0
  fit_full k to room h g =
      let e : to - k ≡ suc (to - (k + 1)) = omega arith in
      ap (λ c. fitting f k c room) e ∙ fit_no k (to - (k + 1)) room g

  pub fit_next : (k to room : ℕ) → k < to → length (f k) ≤ room
      → k + fitting f k (to - k) room ≡ k + 1 + fitting f (k + 1) (to - (k + 1)) (room - length (f k))
  fit_next k to room h g =
      let e : to - k ≡ suc (to - (k + 1)) = omega arith in
      omega (
        arith,
        ap (λ c. fitting f k c room) e,
        fit_yes k (to - (k + 1)) room g,
        ap (λ n. fitting f n (to - (k + 1)) (room - length (f k))) (add-one k),
      )

  -- no more than there are, and no more bytes than there is room for
  pub fit_few : (c k room : ℕ) → fitting f k c room ≤ c
  fit_few zero k room = omega (arith, fit_zero k room)
  fit_few (suc c) k room = by (dec_lt room (length (f k))) (fit_few c (suc k) (room - length (f k)))
    where
      by : Dec (room < length (f k)) → fitting f (suc k) c (room - length (f k)) ≤ c → fitting f k (suc c) room ≤ suc c
      by (yes h) i = omega (arith, fit_no k c room h)
      by (no h) i = omega (arith, fit_yes k c room (omega arith))

  pub fit_within : (c k room : ℕ) → length (lines_on f k (fitting f k c room)) ≤ room
  fit_within zero k room = omega (arith, ap (λ n. length (lines_on f k n)) (fit_zero k room), ap length (on_none k))
  fit_within (suc c) k room = by (dec_lt room (length (f k))) (fit_within c (suc k) (room - length (f k)))
    where
      by : Dec (room < length (f k))
          → length (lines_on f (suc k) (fitting f (suc k) c (room - length (f k)))) ≤ room - length (f k)
          → length (lines_on f k (fitting f k (suc c) room)) ≤ room
      by (yes h) i = omega (arith, ap (λ n. length (lines_on f k n)) (fit_no k c room h), ap length (on_none k))
      by (no h) i =
          let n = fitting f (suc k) c (room - length (f k)) in
          let e = ap (λ n. length (lines_on f k n)) (fit_yes k c room (omega arith)) in
          omega (arith, e, ap length (on_cons k n), length-append (f k) (lines_on f (suc k) n))

  -- the first line is among them where it fits
  pub fit_some : (c k room : ℕ) → 0 < c → length (f k) ≤ room → 0 < fitting f k c room
  fit_some zero k room p h = absurd (omega arith)
  fit_some (suc c) k room p h = omega (arith, fit_yes k c room h)

  pub fit_none : (c k room : ℕ) → room < length (f k) → fitting f k c room ≡ 0
  fit_none zero k room h = fit_zero k room
  fit_none (suc c) k room h = fit_no k c room h

-- ---- two that give the same lines, from line k and from line j on

pub on_same : (f g : ℕ → List ℕ) (c k j : ℕ) → ((i : ℕ) → i < c → f (k + i) ≡ g (j + i)) → lines_on f k c ≡ lines_on g j c
on_same f g zero k j h = on_none f k ∙ sym (on_none g j)
on_same f g (suc c) k j h =
    on_more f k c ∙ ap₂ (λ r l. r ++ l) (on_same f g c k j (λ i q. h i (omega arith))) (h c (omega arith)) ∙ sym (on_more g j c)

fit_step : (f g : ℕ → List ℕ) (c k j room : ℕ) → f k ≡ g j
    → ((room : ℕ) → fitting f (suc k) c room ≡ fitting g (suc j) c room)
    → Dec (room < length (f k)) → fitting f k (suc c) room ≡ fitting g j (suc c) room
fit_step f g c k j room e i (yes h) = fit_no f k c room h ∙ sym (fit_no g j c room (omega (arith, ap length e)))
fit_step f g c k j room e i (no h) =
    fit_yes f k c room (omega arith)
    ∙ ap suc (i (room - length (f k)))
    ∙ ap (λ l. suc (fitting g (suc j) c (room - length l))) e
    ∙ sym (fit_yes g j c room (omega (arith, ap length e)))

same_first : (f g : ℕ → List ℕ) (k j : ℕ) → f (k + 0) ≡ g (j + 0) → f k ≡ g j
same_first f g k j e = ap f (sym (add-zero k)) ∙ e ∙ ap g (add-zero j)

same_behind : (f g : ℕ → List ℕ) (k j i : ℕ) → f (k + suc i) ≡ g (j + suc i) → f (suc k + i) ≡ g (suc j + i)
same_behind f g k j i e =
    let a : suc k + i ≡ k + suc i = omega arith in
    let b : j + suc i ≡ suc j + i = omega arith in
    ap f a ∙ e ∙ ap g b

pub fit_same : (f g : ℕ → List ℕ) (c k j room : ℕ) → ((i : ℕ) → i < c → f (k + i) ≡ g (j + i)) → fitting f k c room ≡ fitting g j c room
fit_same f g zero k j room h = fit_zero f k room ∙ sym (fit_zero g j room)
fit_same f g (suc c) k j room h =
    fit_step f g c k j room (same_first f g k j (h 0 (omega arith)))
    (λ r. fit_same f g c (suc k) (suc j) r (λ i q. same_behind f g k j i (h (suc i) (omega arith))))
    (dec_lt room (length (f k)))

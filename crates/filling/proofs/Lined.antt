-- Lines behind the page's first line.
use Prim.Native.Nat.{ℕ, suc, ◌+◌, ◌-◌, ◌≤◌, ◌<◌}
use mathlib.Core.Path.{◌≡◌, refl, sym, ap, subst, subst₂, ◌∙◌}
use mathlib.Core.List.{List, ◌++◌}
use native.Mathlib.Omega.{arith}
use native.Mathlib.Decide.{dec_lt}
use native.Mathlib.Numerals.{add-one}
use lib.ListN.{length, length-append}
use Rattle.lists.specs.Tab.{over}
use Rattle.lists.specs.Text.{text, decimal}
use Rattle.image.specs.declared.Content.{Content}
use Rattle.image.specs.declared.Shape.{Shape}
use Rattle.page.specs.Printed.{first_line, newline}
use Rattle.page.specs.Filled.{lines_on, fitting}
use Rattle.printing.specs.Lines.{line_from}
use Rattle.printing.proofs.Written.{Put, then}
use Rattle.printing.proofs.Fittings as fits
use Rattle.filling.specs.Lines.{table_line}

-- of the lines from `from` on and below `to`, those that fit into `room` bytes stand from place `at` on in what was b and is m; n is the
-- first that does not, and p the place behind them
abbrev pub Lined : (ℕ → List ℕ) → List ℕ → ℕ → ℕ → ℕ → ℕ → List ℕ → ℕ → ℕ → Type 0
Lined f b at from to room m n p = (n ≡ from + fitting f from (to - from) room) × Put b at (lines_on f from (n - from)) m p

-- from the same line, in the same room
pub lined_as : (f : ℕ → List ℕ) (b : List ℕ) (at from from' to room room' : ℕ) (m : List ℕ) (n p : ℕ) → from ≡ from' → room ≡ room'
    → Lined f b at from to room m n p → Lined f b at from' to room' m n p
lined_as f b at from from' to room room' m n p e g x = subst₂ (λ k r. Lined f b at k to r m n p) e g x

module _ (f g : ℕ → List ℕ) (h : (k : ℕ) → f (suc k) ≡ g k) where
  behind : (k i : ℕ) → f (k + 1 + i) ≡ g (k + i)
  behind k i = let e : k + 1 + i ≡ suc (k + i) = omega arith in ap f e ∙ h (k + i)

  -- g's lines are f's lines behind the first
  pub lined_behind : (b : List ℕ) (at j to room : ℕ) (m : List ℕ) (n p : ℕ) → Lined g b at j to room m n p → Lined f b at (j + 1) (to + 1) room m (n + 1) p
  lined_behind b at j to room m n p x =
      let d : to + 1 - (j + 1) ≡ to - j = omega arith in
      let e : n + 1 - (j + 1) ≡ n - j = omega arith in
      let l = ap (lines_on f (j + 1)) e ∙ fits.on_same f g (n - j) (j + 1) j (λ i q. behind j i) in
      let c = ap (λ c. fitting f (j + 1) c room) d ∙ fits.fit_same f g (to - j) (j + 1) j room (λ i q. behind j i) in
      (omega (arith, x.0, c), subst (λ s. Put b at s m p) (sym l) x.1)

-- a first line that does not fit
pub lined_none : (f : ℕ → List ℕ) (b : List ℕ) (at from to room : ℕ) (m : List ℕ) → room < length (f from) → m ≡ b → Lined f b at from to room m from at
lined_none f b at from to room m h e =
    let s = fits.on_start f from b at in
    (omega (arith, fits.fit_none f (to - from) from room h), (s.0, e ∙ s.1))

-- a first line that fits, and the lines behind it
pub lined_first : (f : ℕ → List ℕ) (b : List ℕ) (at from to room : ℕ) (l : List ℕ) (q : ℕ) (m : List ℕ) (n p : ℕ)
    → from < to → length (f from) ≤ room → Put b at (f from) l q
    → Lined f l q (from + 1) to (room - length (f from)) m n p → Lined f b at from to room m n p
lined_first f b at from to room l q m n p h g x y =
    let e : n - from ≡ suc (n - (from + 1)) = omega (arith, y.0) in
    let t : lines_on f from (n - from) ≡ f from ++ lines_on f (from + 1) (n - (from + 1)) =
    ap (lines_on f from) e ∙ fits.on_cons f from (n - (from + 1)) ∙ ap (λ k. f from ++ lines_on f k (n - (from + 1))) (sym (add-one from)) in
    (omega (arith, y.0, fits.fit_next f from to room h g), subst (λ s. Put b at s m p) (sym t) (then b at (f from) (lines_on f (from + 1) (n - (from + 1))) x y.1))

-- by other names
pub lined_same : (f g : ℕ → List ℕ) (b : List ℕ) (at from to room : ℕ) (m : List ℕ) (n p : ℕ) → ((i : ℕ) → i < to → f i ≡ g i)
    → Lined f b at from to room m n p → Lined g b at from to room m n p
lined_same f g b at from to room m n p h x =
    let c = fits.fit_same f g (to - from) from from room (λ i q. h (from + i) (omega arith)) in
    let l = fits.on_same f g (n - from) from from (λ i q. h (from + i) (omega (arith, x.0, fits.fit_few f (to - from) from room))) in
    (omega (arith, x.0, c), subst (λ s. Put b at s m p) l x.1)

-- where none was written there is no room for the first; where one was there is
pub lined_stays : (f : ℕ → List ℕ) (b : List ℕ) (from to room : ℕ) (m : List ℕ) (n p : ℕ) → Lined f b 0 from to room m n p
    → from < to → n ≡ from → (room < length (f from)) × (m ≡ b)
unfolding over
lined_stays f b from to room m n p x h e = (
  by (dec_lt room (length (f from))),
  x.1.1 ∙ ap (λ n. over b 0 (lines_on f from (n - from))) e ∙ sym (fits.on_start f from b 0).1,
)
  where
    by : Dec (room < length (f from)) → room < length (f from)
    by (yes l) = l
    by (no l) = absurd (omega (arith, x.0, fits.fit_some f (to - from) from room (omega arith) (omega arith)))

pub lined_goes : (f : ℕ → List ℕ) (b : List ℕ) (from to room : ℕ) (m : List ℕ) (n p : ℕ) → Lined f b 0 from to room m n p
    → (n ≡ from → ⊥) → length (f from) ≤ room
lined_goes f b from to room m n p x h = by (dec_lt room (length (f from)))
  where
    by : Dec (room < length (f from)) → length (f from) ≤ room
    by (yes l) = absurd (h (omega (arith, x.0, fits.fit_none f (to - from) from room l)))
    by (no l) = omega arith

-- ---- the lines of a table

module _ (t : List (List Content)) (cs : List ℕ) (z : Shape) (threads events count : ℕ) where
  abbrev line : ℕ → List ℕ
  line = table_line t cs z threads events count

  pub line_behind : (k : ℕ) → line (suc k) ≡ line_from t cs z k
  unfolding table_line
  line_behind k = refl

-- no first line is empty
pub first_some : (threads n events count : ℕ) → 0 < length (first_line threads n events count)
unfolding first_line text
first_some threads n events count =
    omega (
      arith,
      length-append
          (text "UQS 1 threads " ++ decimal threads ++ text " nodes " ++ decimal n ++ text " events " ++ decimal events ++ text " endings " ++ decimal count)
          newline,
    )

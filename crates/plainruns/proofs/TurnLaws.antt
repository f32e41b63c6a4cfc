-- The runs by their numbers are the choices of picks in their order.
use Prim.Native.Nat.{ℕ, zero, suc, ◌+◌, ◌-◌, ◌*◌, ◌/◌, ◌%◌, ◌^◌, ◌≤◌, ◌<◌}
use mathlib.Core.Path.{◌≡◌, refl, sym, ap, ap₂, subst, ◌∙◌}
use mathlib.Core.List.{List, [], ◌∷◌, ◌++◌, append_assoc, append-nil}
use native.Mathlib.Omega.{arith}
use native.Mathlib.Nat.{pow-zero, pow-suc, pow-succ', pow-le-pow_right, mul-div_cancel, mod-lt, div-lt_iff_lt-mul, zero-mul, suc-mul, add-mul-div_right, mul-add-mod_self_right, div-eq_of_lt, mod-eq_of_lt, add_comm}
use lib.ListN.{length, get_or, set, replicate, get_or-append}
use lib.Dec.{eqb}
use Rattle.lists.specs.Tab.{tab, over}
use Rattle.lists.proofs.TabLaws as tabs
use Rattle.plainproof.specs.Once.{each_of, choices_of}
use Rattle.plainproof.proofs.OnceLaws as once
use Rattle.plainproof.proofs.Images.{number_tells}
use Rattle.plainruns.specs.Turns.{turn_of, no_picks, turn_in}

pub pow_pos : (b w : ℕ) → 1 ≤ b → 0 < b ^ w
pow_pos b w h = omega (arith, pow-zero b, pow-le-pow_right {n = b} (omega arith) {i = 0} {j = w} (omega arith))

-- ---- one line further

module _ (b n j : ℕ) (h : j < n) (one : 1 ≤ b) where
  abbrev m : ℕ
  m = n - (j + 1)

  left : n - j ≡ suc (n - (j + 1))
  left = omega arith

  pub width_next : (w : ℕ) → w ≡ b ^ (n - j) → w / b ≡ b ^ m
  width_next w e = ap (λ (x : ℕ). x / b) (e ∙ ap (λ (k : ℕ). b ^ k) left ∙ pow-suc b m) ∙ mul-div_cancel (b ^ m) (omega arith)

  pub pick_less : (x : ℕ) → x < b ^ (n - j) → x / b ^ m < b
  pick_less x q = (div-lt_iff_lt-mul (pow_pos b m one)).1 (subst (λ (y : ℕ). x < y) (ap (λ (k : ℕ). b ^ k) left ∙ pow-succ' b m) q)

  pub rest_less : (x : ℕ) → x % b ^ m < b ^ m
  rest_less x = mod-lt x (pow_pos b m one)

  pub turn_next : (picks : List ℕ) (x : ℕ) → over picks j (turn_of b (n - j) x) ≡ over (set picks j (x / b ^ m)) (j + 1) (turn_of b m (x % b ^ m))
  unfolding over turn_of
  turn_next picks x = ap (λ (k : ℕ). over picks j (turn_of b k x)) left ∙ ap (λ (i : ℕ). over (set picks j (x / b ^ m)) i (turn_of b m (x % b ^ m))) (let z : suc j ≡ j + 1 = omega arith in z)

pub turn_end : (b n j x : ℕ) (picks : List ℕ) → n ≤ j → over picks j (turn_of b (n - j) x) ≡ picks
unfolding over turn_of
turn_end b n j x picks h = ap (λ (k : ℕ). over picks j (turn_of b k x)) (let z : n - j ≡ 0 = omega arith in z)

pub turn_begin : (b n k : ℕ) → turn_in b n k ≡ over no_picks 0 (turn_of b (n - 0) k)
unfolding turn_in
turn_begin b n k = ap (λ (i : ℕ). over no_picks 0 (turn_of b i k)) (let z : n ≡ n - 0 = omega arith in z)

-- ---- in the order of the choices

pub tab_append : {A : Type 0} (h : ℕ → A) (a p : ℕ) → tab h (a + p) ≡ tab h a ++ tab (λ i. h (a + i)) p
unfolding tab
tab_append h a zero = ap (tab h) (let z : a + 0 ≡ a = omega arith in z) ∙ sym (append-nil (tab h a))
tab_append {A} h a (suc p) =
    ap (tab h) (let z : a + suc p ≡ suc (a + p) = omega arith in z)
    ∙ ap (λ (l : List A). l ++ (h (a + p) ∷ [])) (tab_append h a p) ∙ append_assoc (tab h a) (tab (λ i. h (a + i)) p) (h (a + p) ∷ [])

module _ (g : ℕ → List ℕ) (p : ℕ) (pos : 0 < p) where
  abbrev behind : ℕ → List ℕ
  behind k = k / p ∷ g (k % p)

  behind_at : (c i : ℕ) → i < p → behind (c * p + i) ≡ c ∷ g i
  behind_at c i h =
      let z = add_comm (c * p) i in
      let d : (c * p + i) / p ≡ c = ap (λ (x : ℕ). x / p) z ∙ add-mul-div_right i c pos ∙ ap (λ (x : ℕ). x + c) (div-eq_of_lt h) ∙ (let y : 0 + c ≡ c = omega arith in y) in
      let r : (c * p + i) % p ≡ i = mul-add-mod_self_right c p i ∙ mod-eq_of_lt h in
      ap₂ (λ (x y : ℕ). x ∷ g y) d r

  each_tab : (c : ℕ) → each_of (tab (λ x. x) c) (tab g p) ≡ tab behind (c * p)
  unfolding each_of tab
  each_tab zero = ap (tab behind) (sym (zero-mul p))
  each_tab (suc c) =
      once.each_append eqb number_tells (tab (λ x. x) c) c (tab g p)
      ∙ ap₂ (λ (x y : List (List ℕ)). x ++ y) (each_tab c) (tabs.map_tab (λ z. c ∷ z) g p ∙ sym (tabs.tab_same (λ i. behind (c * p + i)) (λ i. c ∷ g i) p (behind_at c)))
      ∙ sym (tab_append behind (c * p) p) ∙ ap (tab behind) (sym (suc-mul c p))

pub turns_are : (b n : ℕ) → 1 ≤ b → choices_of (replicate n (tab (λ x. x) b)) ≡ tab (turn_of b n) (b ^ n)
unfolding choices_of turn_of tab
turns_are b zero h = ap (tab (turn_of b 0)) (sym (pow-zero b))
turns_are b (suc n) h =
    ap (each_of (tab (λ x. x) b)) (turns_are b n h) ∙ each_tab (turn_of b n) (b ^ n) (pow_pos b n h) b ∙ ap (tab (turn_of b (suc n))) (sym (pow-succ' b n))

-- ---- in the table of six places

pub turn_length : (b n k : ℕ) → length (turn_of b n k) ≡ n
unfolding turn_of
turn_length b zero k = refl
turn_length b (suc n) k = ap suc (turn_length b n (k % b ^ n))

pub turn_at : (b n k j : ℕ) → n ≤ 6 → j < n → get_or (turn_in b n k) j 0 ≡ get_or (turn_of b n k) j 0
unfolding turn_in no_picks
turn_at b n k j h q =
    ap (λ (l : List ℕ). get_or l j 0) (tabs.over_is no_picks 0 (turn_of b n k) (omega (arith, turn_length b n k)))
    ∙ get_or-append (turn_of b n k) _ 0 j (omega (arith, turn_length b n k))

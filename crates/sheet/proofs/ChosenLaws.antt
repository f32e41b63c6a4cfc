-- The recovered nodes of an ending are the slots that its choices tell, in their order.
use Prim.Native.Nat.{ℕ, zero, suc, ◌+◌, ◌-◌, ◌*◌, ◌≤◌, ◌<◌}
use mathlib.Core.Path.{◌≡◌, refl, sym, ap, ap₂, subst, ◌∙◌}
use mathlib.Core.Bool.{Bool, true, false}
use mathlib.Core.List.{List, [], ◌∷◌, map}
use native.Mathlib.Omega.{arith}
use native.Mathlib.Decide.{dec_lt}
use native.Mathlib.Nat.{add-suc, add-zero}
use borrow.Author.Tests.{lt-ltb, le-ltb}
use Rattle.image.specs.declared.Content.{Content}
use Rattle.image.specs.declared.Image.{Image}
use Rattle.image.specs.Layout.{content_at}
use Rattle.image.specs.Recovered.{recovered_at}
use Rattle.machine.specs.Start.{insert, risen}
use Rattle.machine.proofs.QueueLaws as queues
use Rattle.sheet.specs.Order.{joins}
use Rattle.sheet.proofs.OrderLaws as orders
use Rattle.sheet.proofs.OrderLaws.{Each, chosen, joined_if}

insert_yes : (l : List Content) (i k : ℕ) (q : List ℕ) → (content_at l i).index < (content_at l k).index → insert l i (k ∷ q) ≡ i ∷ k ∷ q
unfolding insert
insert_yes l i k q h = rw (lt-ltb _ _ h, insert)

insert_no : (l : List Content) (i k : ℕ) (q : List ℕ) → (content_at l k).index ≤ (content_at l i).index → insert l i (k ∷ q) ≡ k ∷ insert l i q
unfolding insert
insert_no l i k q h = rw (le-ltb _ _ h, insert)

insert_none : (l : List Content) (i : ℕ) → insert l i [] ≡ i ∷ []
unfolding insert
insert_none l i = refl

module _ (f : ℕ → ℕ) (node : ℕ → ℕ) (l : List Content) where
  -- a slot's rank is its node's index
  abbrev pub Ranks : ℕ → Type 0
  Ranks e = f e ≡ (content_at l (node e)).index

  pub map_joins : (e : ℕ) (q : List ℕ) → Ranks e → Each Ranks q → map node (joins f e q) ≡ insert l (node e) (map node q)
  map_joins e [] r a = ap (map node) (orders.joins_none f e) ∙ sym (insert_none l (node e))
  map_joins e (k ∷ q) r a = by (dec_lt (f e) (f k)) (map_joins e q r a.1)
    where
      by : Dec (f e < f k) → map node (joins f e q) ≡ insert l (node e) (map node q) → map node (joins f e (k ∷ q)) ≡ insert l (node e) (node k ∷ map node q)
      by (yes h) ih = ap (map node) (orders.joins_yes f e k q h) ∙ sym (insert_yes l (node e) (node k) (map node q) (omega (arith, r, a.0)))
      by (no h) ih =
          ap (map node) (orders.joins_no f e k q (omega arith))
          ∙ ap (λ (z : List ℕ). node k ∷ z) ih
          ∙ sym (insert_no l (node e) (node k) (map node q) (omega (arith, r, a.0)))

module _ (f : ℕ → ℕ) (sel : ℕ → Bool) (from : ℕ) where
  chosen_no : (c : ℕ) → sel (from + c) ≡ false → chosen f sel from (suc c) ≡ chosen f sel from c
  unfolding chosen joined_if
  chosen_no c h = ap (λ (b : Bool). joined_if f sel (from + c) b (chosen f sel from c)) h

  chosen_yes : (c : ℕ) → sel (from + c) ≡ true → chosen f sel from (suc c) ≡ joins f (from + c) (chosen f sel from c)
  unfolding chosen joined_if
  chosen_yes c h = ap (λ (b : Bool). joined_if f sel (from + c) b (chosen f sel from c)) h

  -- slots of which none is told
  pub chosen_none : (c k : ℕ) → ((j : ℕ) → j < k → sel (from + (c + j)) ≡ false) → chosen f sel from (c + k) ≡ chosen f sel from c
  chosen_none c zero h = ap (chosen f sel from) (add-zero c)
  chosen_none c (suc k) h =
      ap (chosen f sel from) (add-suc c k)
      ∙ chosen_no (c + k) (h k (omega arith))
      ∙ chosen_none c k (λ j g. h j (omega arith))

  -- sixteen slots of which all but slot d are not told
  pub chosen_line : (c d : ℕ) → d < 16 → ((j : ℕ) → j < 16 → (j ≡ d → ⊥) → sel (from + (c + j)) ≡ false)
      → chosen f sel from (c + 16) ≡ joined_if f sel (from + (c + d)) (sel (from + (c + d))) (chosen f sel from c)
  unfolding chosen
  chosen_line c d g h =
      let e : c + 16 ≡ suc (c + d) + (15 - d) = omega arith in
      ap (chosen f sel from) e
      ∙ chosen_none (suc (c + d)) (15 - d)
      (λ j l. ap (λ (k : ℕ). sel (from + k)) (let z : suc (c + d) + j ≡ c + (suc d + j) = omega arith in z) ∙ h (suc d + j) (omega arith) (λ x. omega arith))
      ∙ ap (joined_if f sel (from + (c + d)) (sel (from + (c + d)))) (chosen_none c d (λ j l. h j (omega arith) (λ x. omega arith)))

  -- each that is chosen is told, and one of the c slots
  pub chosen_among : (c : ℕ) → Each (λ e. (sel e ≡ true) × (from ≤ e) × (e < from + c)) (chosen f sel from c)
  unfolding chosen
  chosen_among zero = tt
  chosen_among (suc c) =
      by (sel (from + c)) refl
      (orders.each_map (λ e. (sel e ≡ true) × (from ≤ e) × (e < from + c)) (λ e. (sel e ≡ true) × (from ≤ e) × (e < from + suc c)) (chosen f sel from c) (λ e z. (z.0, z.1, omega (arith, z.2))) (chosen_among c))
    where
      by : (b : Bool) → sel (from + c) ≡ b → Each (λ e. (sel e ≡ true) × (from ≤ e) × (e < from + suc c)) (chosen f sel from c)
          → Each (λ e. (sel e ≡ true) × (from ≤ e) × (e < from + suc c)) (chosen f sel from (suc c))
      by true s a =
          subst (Each (λ e. (sel e ≡ true) × (from ≤ e) × (e < from + suc c))) (sym (chosen_yes c s))
          (orders.joins_each f (λ e. (sel e ≡ true) × (from ≤ e) × (e < from + suc c)) (from + c) (chosen f sel from c) (s, omega arith, omega arith) a)
      by false s a = subst (Each (λ e. (sel e ≡ true) × (from ≤ e) × (e < from + suc c))) (sym (chosen_no c s)) a

-- an image g of n nodes and the choice d of each node's slot
module _ (g : Image) (n : ℕ) (f : ℕ → ℕ) (sel : ℕ → Bool) (from : ℕ) (node d : ℕ → ℕ)
    (small : (i : ℕ) → i < n → d i < 16)
    (others : (i j : ℕ) → i < n → j < 16 → (j ≡ d i → ⊥) → sel (from + (i * 16 + j)) ≡ false)
    (told : (i : ℕ) → i < n → sel (from + (i * 16 + d i)) ≡ recovered_at g i)
    (nodes : (i j : ℕ) → i < n → j < 16 → node (from + (i * 16 + j)) ≡ i)
    (ranks : (e : ℕ) → sel e ≡ true → from ≤ e → e < from + n * 16 → f e ≡ (content_at g.nodes (node e)).index) where
  -- the recovered nodes below i are those of the chosen slots of the first i lines
  pub chosen_risen : (i : ℕ) → i ≤ n → map node (chosen f sel from (i * 16)) ≡ risen g i
  unfolding risen chosen joined_if
  chosen_risen zero h = refl
  chosen_risen (suc i) h = by (recovered_at g i) refl (chosen_risen i (omega arith))
    where
      e : ℕ
      e = from + (i * 16 + d i)

      next : chosen f sel from (suc i * 16) ≡ joined_if f sel e (sel e) (chosen f sel from (i * 16))
      next =
          ap (chosen f sel from) (let z : suc i * 16 ≡ i * 16 + 16 = omega arith in z)
          ∙ chosen_line f sel from (i * 16) (d i) (small i (omega arith)) (λ j l x. others i j (omega arith) l x)

      all : Each (λ e. f e ≡ (content_at g.nodes (node e)).index) (chosen f sel from (i * 16))
      all =
          orders.each_map (λ e. (sel e ≡ true) × (from ≤ e) × (e < from + i * 16)) (λ e. f e ≡ (content_at g.nodes (node e)).index) (chosen f sel from (i * 16))
          (λ e z. ranks e z.0 z.1 (omega (arith, z.2)))
          (chosen_among f sel from (i * 16))

      by : (b : Bool) → recovered_at g i ≡ b → map node (chosen f sel from (i * 16)) ≡ risen g i → map node (chosen f sel from (suc i * 16)) ≡ risen g (suc i)
      by true r ih =
          let s : sel e ≡ true = told i (omega arith) ∙ r in
          ap (map node) (next ∙ ap (λ (b : Bool). joined_if f sel e b (chosen f sel from (i * 16))) s)
          ∙ map_joins f node g.nodes e (chosen f sel from (i * 16)) (ranks e s (omega arith) (omega (arith, small i (omega arith)))) all
          ∙ ap₂ (insert g.nodes) (nodes i (d i) (omega arith) (small i (omega arith))) ih
          ∙ sym (queues.risen_next g i r)
      by false r ih =
          let s : sel e ≡ false = told i (omega arith) ∙ r in
          ap (map node) (next ∙ ap (λ (b : Bool). joined_if f sel e b (chosen f sel from (i * 16))) s)
          ∙ ih
          ∙ sym (queues.risen_same g i r)

-- The queue of a start: along the links from the dummy are the items of the recovered nodes, in their order.
use Prim.Native.Nat.{ℕ, zero, suc, ◌≤◌, ◌<◌}
use mathlib.Core.Path.{◌≡◌, refl, sym, ap, ap₂, ◌∙◌}
use mathlib.Core.Bool.{true, false}
use mathlib.Core.List.{List, [], ◌∷◌, map}
use mathlib.Core.Logic.{◌≢◌, inl, inr}
use native.Mathlib.Omega.{arith}
use lib.Dec.{eqb, eqb_refl}
use lib.ListN.{length, get_or}
use Rattle.answer.specs.Answers.{accepted}
use Rattle.image.specs.declared.Image.{Image}
use Rattle.image.specs.Layout.{content_at}
use Rattle.image.specs.Recovered.{dummy_of}
use Rattle.machine.specs.Record.{node}
use Rattle.machine.specs.Rising.{among}
use Rattle.machine.specs.Start.{queue_of, start_of, start_answer}
use Rattle.machine.specs.declared.Machine.{Machine}
use Rattle.machine.specs.declared.Node.{Node}
use Rattle.machine.proofs.AcceptedLaws.{accepted_start}
use Rattle.machine.proofs.QueueLaws.{length_risen}
use Rattle.machine.proofs.StartLaws as starts
use Rattle.lawful.specs.Plain.{items_from, queue_in}
use Rattle.model.proofs.Basics.{eq_no, yes_of}

-- the links from x run through the nodes of the list, and end there
abbrev pub Chain : Machine → ℕ → List ℕ → Type 0
Chain m x [] = (node m x).next ≡ 255
Chain m x (k ∷ q) = ((node m x).next ≡ k) × (k ≢ 255) × Chain m k q

pub eq_yes : (a b : ℕ) → a ≡ b → eqb a b ≡ true
eq_yes a b e = ap (λ x. eqb x b) e ∙ yes_of (eqb b b) (eqb_refl b)

-- the items along a chain, in enough moves
pub chain_items : (m : Machine) (c x : ℕ) (q : List ℕ) → length q ≤ c → Chain m x q → items_from m c x ≡ map (λ i. (node m i).item) q
unfolding items_from
chain_items m zero x [] h d = refl
chain_items m zero x (k ∷ q) h d = absurd (omega arith)
chain_items m (suc c) x [] h d = ap (λ b. elim b as (λ _. List ℕ) [ true ↦ [] | false ↦ (node m (node m x).next).item ∷ items_from m c (node m x).next ]) (eq_yes (node m x).next 255 d)
chain_items m (suc c) x (k ∷ q) h d =
    ap (λ b. elim b as (λ _. List ℕ) [ true ↦ [] | false ↦ (node m (node m x).next).item ∷ items_from m c (node m x).next ])
    (eq_no (node m x).next 255 (λ e. d.1 (sym d.0 ∙ e)))
    ∙ ap (λ y. (node m y).item ∷ items_from m c y) d.0
    ∙ ap (λ l. (node m k).item ∷ l) (chain_items m c k q (omega arith) d.2)

-- links as a start has them, from place to place, are a chain
pub chain_of : (m : Machine) (x : ℕ) (q : List ℕ) → ((p : ℕ) → suc p < length (x ∷ q) → (node m (get_or (x ∷ q) p 0)).next ≡ get_or (x ∷ q) (suc p) 0)
    → (node m (get_or (x ∷ q) (length q) 0)).next ≡ 255 → ((i : ℕ) → among i q → i < 64) → Chain m x q
chain_of m x [] run last u = last
chain_of m x (k ∷ q) run last u = (
  run 0 (omega arith),
  λ e. omega (arith, u k (inl refl)),
  chain_of m k q (λ p h. run (suc p) (omega arith)) last (λ i h. u i (inr h)),
)

-- two functions that agree on the members of a list
pub map_among : (f g : ℕ → ℕ) (q : List ℕ) → ((i : ℕ) → among i q → f i ≡ g i) → map f q ≡ map g q
map_among f g [] e = refl
map_among f g (k ∷ q) e = ap₂ (λ (a : ℕ) (r : List ℕ). a ∷ r) (e k (inl refl)) (map_among f g q (λ i h. e i (inr h)))

module _ (g : Image) (t : ℕ) (ok : accepted (start_answer g t) ≡ true) where
  abbrev m : Machine
  m = start_of g t

  chain : Chain m (dummy_of g) (queue_of g)
  chain = chain_of m (dummy_of g) (queue_of g) (starts.links_run g t ok)
      (ap (λ x. (node m x).next) (sym (starts.tail_is g t)) ∙ starts.link_last g t ok)
      (λ i h. omega (arith, (starts.queue_in_lem g t i h).0, (accepted_start g t ok).nodes.1))

  -- the queue of a start of accepted contents
  pub queue_start : queue_in m ≡ map (λ i. (content_at g.nodes i).item) (queue_of g)
  queue_start =
      ap (λ c. items_from m c m.head) (starts.sizes_are g t).0
      ∙ ap (items_from m g.n) (starts.head_is g t)
      ∙ chain_items m g.n (dummy_of g) (queue_of g) (length_risen g g.n) chain
      ∙ map_among (λ i. (node m i).item) (λ i. (content_at g.nodes i).item) (queue_of g)
      (λ i h. ap (λ (v : Node). v.item) (starts.node_is g t i (starts.queue_in_lem g t i h).0))

-- The tests 6, 7 and 8 look at the nodes of an image only, not at those beyond.
use Prim.Native.Nat.{ℕ, ◌<◌}
use mathlib.Core.Path.{◌≡◌, ap, ap₂, ◌∙◌}
use mathlib.Core.Bool.{not}
use native.Mathlib.Omega.{arith}
use lib.Dec.{ltb}
use Rattle.lists.specs.Find.{least}
use Rattle.lists.proofs.FindLaws.{least_same, any_same}
use Rattle.answer.specs.Answers.{Answer}
use Rattle.image.specs.Layout.{content_at}
use Rattle.image.specs.Recovered.{head_of, recovered, recovered_at, twins, has_twin, first_twin, dummy_of, first_unclear}
use Rattle.image.specs.Refusals.{startable, sound}
use Rattle.image.specs.declared.Content.{Content}
use Rattle.image.specs.declared.Image.{Image}

-- one node count, one head index, and the same contents below that count
pub record Alike (g g' : Image) : Type 0 where
  pub n : g.n ≡ g'.n
  pub head : head_of g ≡ head_of g'
  pub nodes : (i : ℕ) → i < g.n → content_at g.nodes i ≡ content_at g'.nodes i

module _ (g g' : Image) (a : Alike g g') where
  unclear_same : first_unclear g ≡ first_unclear g'
  unfolding first_unclear
  unclear_same =
      least_same (λ i. ltb 1 (content_at g.nodes i).linked) (λ i. ltb 1 (content_at g'.nodes i).linked) g.n 0
      (λ i p q. ap (λ (c : Content). ltb 1 c.linked) (a.nodes i (omega arith)))
      ∙ ap (λ (k : ℕ). least (λ i. ltb 1 (content_at g'.nodes i).linked) k 0) a.n

  recovered_same : (i : ℕ) → i < g.n → recovered_at g i ≡ recovered_at g' i
  recovered_same i p = ap₂ recovered a.head (a.nodes i p)

  twins_same : (i j : ℕ) → i < g.n → j < g.n → twins g i j ≡ twins g' i j
  unfolding twins
  twins_same i j p q = rw (recovered_same i p, recovered_same j q, a.nodes i p, a.nodes j q)

  has_twin_same : (i : ℕ) → i < g.n → has_twin g i ≡ has_twin g' i
  unfolding has_twin
  has_twin_same i p = any_same (twins g i) (twins g' i) i (λ j q. twins_same i j p (omega arith))

  twin_same : first_twin g ≡ first_twin g'
  unfolding first_twin
  twin_same = least_same (has_twin g) (has_twin g') g.n 0 (λ i p q. has_twin_same i (omega arith)) ∙ ap (λ (k : ℕ). least (has_twin g') k 0) a.n

  dummy_same : dummy_of g ≡ dummy_of g'
  unfolding dummy_of
  dummy_same =
      least_same (λ i. not (recovered_at g i)) (λ i. not (recovered_at g' i)) g.n 0 (λ i p q. ap not (recovered_same i (omega arith)))
      ∙ ap (λ (k : ℕ). least (λ i. not (recovered_at g' i)) k 0) a.n

  pub startable_same : (rest : Answer) → startable g rest ≡ startable g' rest
  unfolding startable
  startable_same rest = rw (twin_same, dummy_same, a.n)

  pub sound_same : (rest : Answer) → sound g rest ≡ sound g' rest
  unfolding sound
  sound_same rest = rw (unclear_same, startable_same rest, a.n)

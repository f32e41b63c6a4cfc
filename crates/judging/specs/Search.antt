-- The ordered search for an order that shows a history lawful, with its tries counted.
use Rattle.std.specs.Prelude.{ℕ, zero, suc, Bool, true, false, not, List, [], ◌∷◌, ◌++◌, length, eqb, ltb}
use Rattle.std.proofs.Math.Option.{Option, none, some}
use Rattle.lists.specs.Find.{both, any}
use Rattle.lawful.specs.Operation.{Operation, says}
use Rattle.lawful.specs.Plain.{serve}
use Rattle.lawful.specs.Lawful.{at}

pub data Verdict : Type 0 where
  lawful unlawful undecided : Verdict

-- the verdict, how many operations were tried, and the order that shows it
pub record Judged : Type 0 where
  pub verdict : Verdict
  pub tries : ℕ
  pub order : List ℕ

abbrev pub judged : Verdict → ℕ → List ℕ → Judged
judged v t o = record { verdict = v; tries = t; order = o }

unfoldable pub is_in : ℕ → List ℕ → Bool
is_in k [] = false
is_in k (j ∷ l) = elim (eqb k j) [ true ↦ true | false ↦ is_in k l ]

unfoldable pub same_items : List ℕ → List ℕ → Bool
same_items [] [] = true
same_items [] (b ∷ m) = false
same_items (a ∷ l) [] = false
same_items (a ∷ l) (b ∷ m) = elim (eqb a b) [ true ↦ same_items l m | false ↦ false ]

-- operation j was answered before operation i began, and is not taken
unfoldable pub owed : List Operation → List ℕ → ℕ → ℕ → Bool
owed ops order i j = both (both (says (at ops j).reply) (ltb (at ops j).ended (at ops i).began)) (not (is_in j order))

-- what taking operation i makes of the queue; nothing where it is not eligible
unfoldable pub taking : List Operation → List ℕ → List ℕ → ℕ → Option (List ℕ)
taking ops order q i = elim (is_in i order) as (λ _. Option (List ℕ)) [
  | true ↦ none
  | false ↦ elim (any (owed ops order i) (length ops)) as (λ _. Option (List ℕ)) [ true ↦ none | false ↦ serve (at ops i).call (at ops i).reply q ]
]

-- all answered ones are taken and the queue is the recovered one
unfoldable pub finished : List Operation → List ℕ → List ℕ → List ℕ → Bool
finished ops last order q = both (not (any (λ j. both (says (at ops j).reply) (not (is_in j order))) (length ops))) (same_items q last)

-- after a search that found nothing go on, from its tries
abbrev pub or_else : Verdict → Judged → (ℕ → Judged) → Judged
or_else lawful r go = r
or_else unlawful r go = go r.tries
or_else undecided r go = r

-- an eligible operation is tried where a further try is allowed
abbrev pub consider : (ℕ → Bool) → (List ℕ → ℕ → Judged) → (ℕ → Judged) → ℕ → Option (List ℕ) → Judged
consider more next go t none = go t
consider more next go t (some q) = elim (more t) as (λ _. Judged) [
  | true ↦ (let r = next q (suc t) in or_else r.verdict r go)
  | false ↦ judged undecided t []
]

-- the k candidates from i on, lowest number first
unfoldable pub scan : (ℕ → Bool) → List Operation → (List ℕ → List ℕ → ℕ → Judged) → ℕ → List ℕ → List ℕ → ℕ → ℕ → Judged
scan more ops next zero order q i t = judged unlawful t []
scan more ops next (suc k) order q i t =
    consider more (next (order ++ (i ∷ []))) (scan more ops next k order q (suc i)) t (taking ops order q i)

-- with at most m operations still to take
unfoldable pub searched : (ℕ → Bool) → List Operation → List ℕ → ℕ → List ℕ → List ℕ → ℕ → Judged
searched more ops last zero order q t = elim (finished ops last order q) as (λ _. Judged) [ true ↦ judged lawful t order | false ↦ judged unlawful t [] ]
searched more ops last (suc m) order q t = elim (finished ops last order q) as (λ _. Judged) [
  | true ↦ judged lawful t order
  | false ↦ scan more ops (searched more ops last m) (length ops) order q 0 t
]

-- the rest of a search that is not finished: at most m operations still to take, k candidates from i on to ask
abbrev pub asked : (ℕ → Bool) → List Operation → List ℕ → ℕ → ℕ → List ℕ → List ℕ → ℕ → ℕ → Judged
asked more ops last zero k order q i t = judged unlawful t []
asked more ops last (suc m) k order q i t = scan more ops (searched more ops last m) k order q i t

-- a million tries are allowed
abbrev pub enough : ℕ → Bool
enough t = ltb t 1000000

abbrev pub judged_of : List Operation → List ℕ → List ℕ → Judged
judged_of ops first last = searched enough ops last (length ops) [] first 0

-- the same search carried to its end
abbrev pub whole_search : List Operation → List ℕ → List ℕ → Judged
whole_search ops first last = searched (λ _. true) ops last (length ops) [] first 0

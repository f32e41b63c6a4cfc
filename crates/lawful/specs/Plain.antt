-- A plain first-in, first-out queue; and the queue of a machine record.
use Rattle.std.specs.Prelude.{ℕ, zero, suc, Bool, true, false, List, [], ◌∷◌, ◌++◌, get_or, eqb}
use Rattle.std.proofs.Math.Option.{Option, none, some}
use Rattle.machine.specs.Record.{node}
use Rattle.machine.specs.declared.Machine.{Machine}
use Rattle.lawful.specs.Operation.{Operation, Reply, nothing, done, full, worn_out, empty, gave, Call, puts, takes}

-- what an enqueue of v with that answer makes of a queue, if the answer fits: "A Full or Worn out operation changes nothing"
abbrev pub put_by : ℕ → Reply → List ℕ → Option (List ℕ)
put_by v nothing q = some (q ++ (v ∷ []))
put_by v done q = some (q ++ (v ∷ []))
put_by v full q = some q
put_by v worn_out q = some q
put_by v empty q = none
put_by v (gave x) q = none

-- and a dequeue: "A dequeue of an empty plain queue answers Empty and changes nothing."
abbrev pub take_by : Reply → List ℕ → Option (List ℕ)
take_by nothing [] = some []
take_by nothing (x ∷ q) = some q
take_by empty [] = some []
take_by empty (x ∷ q) = none
take_by (gave v) [] = none
take_by (gave v) (x ∷ q) = elim (eqb x v) [ true ↦ some q | false ↦ none ]
take_by done q = none
take_by full q = none
take_by worn_out q = none

abbrev pub serve : Call → Reply → List ℕ → Option (List ℕ)
serve (puts v) r q = put_by v r q
serve takes r q = take_by r q

abbrev pub onward : Option (List ℕ) → (List ℕ → Option (List ℕ)) → Option (List ℕ)
onward none f = none
onward (some q) f = f q

-- operations one at a time
unfoldable pub serve_all : List Operation → List ℕ → Option (List ℕ)
serve_all [] q = some q
serve_all (o ∷ l) q = onward (serve o.call o.reply q) (λ r. serve_all l r)

-- ---- the queue of a record: the items along the links from Head's node, which is the dummy, in at most c moves

unfoldable pub items_from : Machine → ℕ → ℕ → List ℕ
items_from m zero x = []
items_from m (suc c) x = elim (eqb (node m x).next 255) [
  | true ↦ []
  | false ↦ (node m (node m x).next).item ∷ items_from m c (node m x).next
]

abbrev pub queue_in : Machine → List ℕ
queue_in m = items_from m m.n m.head

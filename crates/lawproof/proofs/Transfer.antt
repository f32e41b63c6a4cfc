-- Lawful of the abstract machine's book is lawful of the record's list: the same order.
use mathlib.Core.Path.{◌≡◌, refl, sym, ap, ◌∙◌}
use mathlib.Core.Bool.{Bool, true, false}
use mathlib.Core.List.{List, [], ◌∷◌, map}
use mathlib.Core.Logic.{◌≢◌, inl, inr}
use mathlib.Core.Option.{Option, none, some}
use Prim.Native.Nat.{ℕ, ◌<◌}
use native.Mathlib.Omega.{arith}
use lib.Dec.{eqb}
use lib.ListN.{length}
use Rattle.lists.proofs.BoolLaws.{no_way}
use Rattle.lawful.specs.Operation.{Operation, Reply, nothing, done, full, worn_out, empty, gave, says, Call, puts, takes}
use Rattle.lawful.specs.Plain.{serve, onward, serve_all}
use Rattle.lawful.specs.Lawful.{at, Has, Once, Timely, Lawful}
use Rattle.model.specs.Basics.{sel, has}
use Rattle.model.specs.Core as core
use Rattle.model.specs.Lawful as law
use Rattle.lawproof.proofs.Operations.{shown_call, shown_reply, shown_op, quiet}

-- ---- numbers in an order

pub to_has : (k : ℕ) (l : List ℕ) → has k l → Has k l
to_has k [] h = h
to_has k (j ∷ l) (inl e) = inl e
to_has k (j ∷ l) (inr h) = inr (to_has k l h)

pub of_has : (k : ℕ) (l : List ℕ) → Has k l → has k l
of_has k [] h = h
of_has k (j ∷ l) (inl e) = inl e
of_has k (j ∷ l) (inr h) = inr (of_has k l h)

to_once : (l : List ℕ) → law.Distinct l → Once l
to_once [] d = tt
to_once (k ∷ l) d = ((λ h. d.0 (of_has k l h)), to_once l d.1)

-- ---- a plain queue serves both alike

serves : (c : Call) (r : Reply) (q : List ℕ) → serve c r q ≡ law.serve (shown_call c) (shown_reply r) q
serves (puts v) nothing q = refl
serves (puts v) done q = refl
serves (puts v) full q = refl
serves (puts v) worn_out q = refl
serves (puts v) empty q = refl
serves (puts v) (gave x) q = refl
serves takes nothing [] = refl
serves takes nothing (x ∷ q) = refl
serves takes done q = refl
serves takes full q = refl
serves takes worn_out q = refl
serves takes empty [] = refl
serves takes empty (x ∷ q) = refl
serves takes (gave v) [] = refl
serves takes (gave v) (x ∷ q) = by (eqb x v)
  where
    by : (b : Bool) → ◌≡◌ {A = Option (List ℕ)} (elim b as (λ _. Option (List ℕ)) [ true ↦ some q | false ↦ none ]) (sel b (some q) none)
    by true = refl
    by false = refl

says_something : (r : Reply) → says r ≡ true → shown_reply r ≢ core.nothing
says_something r s e = no_way (sym s ∙ quiet r e)

module _ (ops : List Operation) (op : ℕ → law.Op) (count : ℕ) (same : (i : ℕ) → i < count → op i ≡ shown_op (at ops i)) where
  then_same : (o : Option (List ℕ)) (f f' : List ℕ → Option (List ℕ)) → ((q : List ℕ) → f q ≡ f' q) → onward o f ≡ law.and_then o f'
  then_same none f f' e = refl
  then_same (some q) f f' e = e q

  plays_same : (l : List ℕ) → ((k : ℕ) → has k l → k < count) → (q : List ℕ) → serve_all (map (at ops) l) q ≡ law.serve_all op l q
  unfolding serve_all law.serve_all
  plays_same [] w q = refl
  plays_same (k ∷ l) w q =
      ap (λ o. onward o (λ r. serve_all (map (at ops) l) r)) (serves (at ops k).call (at ops k).reply q ∙ ap (λ (x : law.Op). law.serve x.call x.said q) (sym (same k (w k (inl refl)))))
      ∙ then_same (law.serve (op k).call (op k).said q) (λ r. serve_all (map (at ops) l) r) (λ r. law.serve_all op l r) (λ r. plays_same l (λ j h. w j (inr h)) r)

  said_is : (k : ℕ) → k < count → says (at ops k).reply ≡ true → (op k).said ≢ core.nothing
  said_is k h s e = says_something (at ops k).reply s (sym (ap (λ (x : law.Op). x.said) (same k h)) ∙ e)

  timely_same : (l : List ℕ) → ((k : ℕ) → has k l → k < count) → law.Timely op l → Timely ops l
  timely_same [] w t = tt
  timely_same (k ∷ l) w t = (
    (λ j h d.
        let hj = w j (inr (of_has j l h)) in
        let hk = w k (inl refl) in
        t.0 j (of_has j l h) (
          said_is j hj d.0,
          omega (arith, d.1, ap (λ (x : law.Op). x.ended) (same j hj), ap (λ (x : law.Op). x.began) (same k hk)),
        )),
    timely_same l (λ j h. w j (inr h)) t.1,
  )

  pub lawful_same : length ops ≡ count → (first last : List ℕ) → law.Lawful op count first last → Lawful ops first last
  lawful_same c first last r = record {
    order = r.order;
    within = λ k h. omega (arith, c, r.within k (of_has k r.order h));
    once = to_once r.order r.distinct;
    whole = λ k h s. to_has k r.order (r.whole k (omega arith) (said_is k (omega arith) s));
    timely = timely_same r.order r.within r.timely;
    plays = plays_same r.order r.within first ∙ r.plays;
  }

-- A place of the code shows the place of the search: what is eligible, what a taking leaves, when the search is finished. Assumes nothing.
use Prim.Native.Nat.{ℕ, zero, suc, ◌+◌, ◌-◌, ◌≤◌, ◌<◌}
use mathlib.Core.Path.{◌≡◌, refl, sym, ap, ap₂, ◌∙◌}
use mathlib.Core.Bool.{Bool, true, false, not}
use mathlib.Core.List.{List, [], ◌∷◌, ◌++◌, append_assoc, append-nil}
use mathlib.Core.Option.{Option, none, some}
use mathlib.Core.Logic.{◌≢◌}
use native.Mathlib.Omega.{arith}
use native.Mathlib.Decide.{ℕ_discrete}
use lib.ListN.{length, get_or, set, replicate, length-append, length-set, get_or-replicate}
use lib.Seq.{length-take-le, take-suc-set, set_at, get_or-set_same, get_or-set_other}
use lib.Dec.{eqb, ltb}
use borrow.Author.Tests.{ltb-true, eqb-true, eq-eqb, ne_eqb}
use Rattle.lists.specs.Find.{pick, both, any}
use Rattle.lists.proofs.BoolLaws.{false_true, both_true}
use Rattle.lists.proofs.FindLaws as find
use Rattle.lawful.specs.Operation.{Operation, says}
use Rattle.lawful.specs.Plain.{serve, take_by}
use Rattle.lawful.specs.Lawful.{at}
use Rattle.lawful.specs.Demand3.{Bytes}
use Rattle.judging.specs.History.{count_in, first_count, first_in, last_in, kind_at, began_at, ended_at, answer_at, item_at, call_of, reply_by, operations_in, kind_fits, time_fits, fits}
use Rattle.judging.specs.Search.{is_in, owed, taking, finished}
use Rattle.judging.specs.Place.{no_bytes, no_items, padded, order_in, items_in, queue_in, due, any_due, item_of, is_there, same_queue, is_finished, gives, is_eligible, appended, removed, served, took, fresh, Whole, Clear, flag, Ready}
use Rattle.judging.specs.declared.Place.{Place}
use Rattle.judging.proofs.Taken.{operation_count, operation_is, answer_le, says_reply, at8_le}
use Rattle.judging.proofs.Items as items
use Rattle.judging.proofs.Timely.{before, bar_is}

-- ---- members of an order

pub in_last : (i : ℕ) (o : List ℕ) → is_in i (o ++ (i ∷ [])) ≡ true
unfolding is_in
in_last i [] = rw (eq-eqb i i refl, is_in)
in_last i (k ∷ o) = by (eqb i k) (in_last i o)
  where
    by : (x : Bool) → is_in i (o ++ (i ∷ [])) ≡ true → ◌≡◌ {A = Bool} (elim x [ true ↦ true | false ↦ is_in i (o ++ (i ∷ [])) ]) true
    by true h = refl
    by false h = h

pub in_other : (j i : ℕ) (o : List ℕ) → j ≢ i → is_in j (o ++ (i ∷ [])) ≡ is_in j o
unfolding is_in
in_other j i [] h = rw (ne_eqb j i h, is_in)
in_other j i (k ∷ o) h = ap (λ (z : Bool). elim (eqb j k) as (λ _. Bool) [ true ↦ true | false ↦ z ]) (in_other j i o h)

-- ---- what the bytes of an operation say

fits_kind : (s : List ℕ) (i : ℕ) → fits s i ≡ true → kind_fits (kind_at s i) (answer_at s i) ≡ true
unfolding fits
fits_kind s i e = (both_true (kind_fits (kind_at s i) (answer_at s i)) (time_fits (answer_at s i) (began_at s i) (ended_at s i)) e).0

says_is : (s : List ℕ) (j : ℕ) → j < count_in s → fits s j ≡ true → says (at (operations_in s) j).reply ≡ not (eqb (answer_at s j) 0)
says_is s j h e =
    ap (λ (o : Operation). says o.reply) (operation_is s j h)
    ∙ says_reply (answer_at s j) (item_at s j) (answer_le (kind_at s j) (answer_at s j) (fits_kind s j e))

flag_zero : (b : Bool) → eqb (flag b) 0 ≡ not b
flag_zero true = refl
flag_zero false = refl

-- ---- a dequeue and an enqueue on the queue that a place shows

gives_of : (s : List ℕ) (x : Place) (a v : ℕ) → Option (List ℕ)
gives_of s x a v = elim (gives s x a v) as (λ _. Option (List ℕ)) [ true ↦ some (queue_in s (pick (is_there s x) (removed x) x)) | false ↦ none ]

module _ (s : List ℕ) (x : Place) (room : x.put < length x.items) (low : x.from ≤ first_count s + x.put) where
  fit : x.put ≤ length x.items
  fit = omega arith

  taken_out : (a v : ℕ) → a ≤ 5 → kind_fits 2 a ≡ true → take_by (reply_by a v) (queue_in s x) ≡ gives_of s x a v
  unfolding gives_of gives kind_fits
  taken_out zero v l k = by (is_there s x) refl
    where
      by : (t : Bool) → is_there s x ≡ t → take_by (reply_by zero v) (queue_in s x) ≡ some (queue_in s (pick t (removed x) x))
      by true e = ap (take_by (reply_by zero v)) (items.queue_some s x fit low e)
      by false e = ap (take_by (reply_by zero v)) (items.queue_none s x fit low e) ∙ ap (λ (z : List ℕ). some z) (sym (items.queue_none s x fit low e))
  taken_out (suc zero) v l k = false_true k
  taken_out (suc (suc zero)) v l k = false_true k
  taken_out (suc (suc (suc zero))) v l k = false_true k
  taken_out (suc (suc (suc (suc zero)))) v l k = by (is_there s x) refl
    where
      on : (b : Bool) → eqb (item_of s x x.from) v ≡ b
          → ◌≡◌ {A = Option (List ℕ)} (elim b as (λ _. Option (List ℕ)) [ true ↦ some (queue_in s (removed x)) | false ↦ none ]) (elim b as (λ _. Option (List ℕ)) [ true ↦ some (queue_in s (removed x)) | false ↦ none ])
      on b e = refl

      by : (t : Bool) → is_there s x ≡ t
          → take_by (reply_by 4 v) (queue_in s x) ≡ elim (pick t (eqb (item_of s x x.from) v) false) as (λ _. Option (List ℕ)) [ true ↦ some (queue_in s (pick t (removed x) x)) | false ↦ none ]
      by true e = ap (take_by (reply_by 4 v)) (items.queue_some s x fit low e) ∙ on (eqb (item_of s x x.from) v) refl
      by false e = ap (take_by (reply_by 4 v)) (items.queue_none s x fit low e)
  taken_out (suc (suc (suc (suc (suc zero))))) v l k = by (is_there s x) refl
    where
      by : (t : Bool) → is_there s x ≡ t
          → take_by (reply_by 5 v) (queue_in s x) ≡ elim (pick t false true) as (λ _. Option (List ℕ)) [ true ↦ some (queue_in s (pick t (removed x) x)) | false ↦ none ]
      by true e = ap (take_by (reply_by 5 v)) (items.queue_some s x fit low e)
      by false e = ap (take_by (reply_by 5 v)) (items.queue_none s x fit low e) ∙ ap (λ (z : List ℕ). some z) (sym (items.queue_none s x fit low e))
  taken_out (suc (suc (suc (suc (suc (suc a)))))) v l k = absurd (omega arith)

  put_in : (a v : ℕ) → ltb a 4 ≡ true → serve (call_of 1 v) (reply_by a v) (queue_in s x) ≡ some (queue_in s (pick (ltb a 2) (appended x v) x))
  put_in zero v k = ap (λ (z : List ℕ). some z) (sym (items.queue_more s x fit low v room))
  put_in (suc zero) v k = ap (λ (z : List ℕ). some z) (sym (items.queue_more s x fit low v room))
  put_in (suc (suc zero)) v k = refl
  put_in (suc (suc (suc zero))) v k = refl
  put_in (suc (suc (suc (suc a)))) v k = absurd (omega (arith, ltb-true (suc (suc (suc (suc a)))) 4 k))

  -- by kind: an enqueue always fits
  serve_is : (k a v : ℕ) → kind_fits k a ≡ true
      → serve (call_of k v) (reply_by a v) (queue_in s x)
      ≡ elim (pick (eqb k 1) true (gives s x a v)) as (λ _. Option (List ℕ)) [
        | true ↦ some (queue_in s (pick (eqb k 1) (pick (ltb a 2) (appended x v) x) (pick (is_there s x) (removed x) x)))
        | false ↦ none
      ]
  unfolding kind_fits gives_of
  serve_is k a v e = by (eqb k 1) refl (eqb k 2) refl e
    where
      by : (b : Bool) → eqb k 1 ≡ b → (d : Bool) → eqb k 2 ≡ d → pick b (ltb a 4) (both d (pick (eqb a 0) true (pick (eqb a 4) true (eqb a 5)))) ≡ true
          → serve (call_of k v) (reply_by a v) (queue_in s x)
          ≡ elim (pick b true (gives s x a v)) as (λ _. Option (List ℕ)) [
            | true ↦ some (queue_in s (pick b (pick (ltb a 2) (appended x v) x) (pick (is_there s x) (removed x) x)))
            | false ↦ none
          ]
      by true f d g h = rw (eqb-true k 1 f) (put_in a v h)
      by false f false g h = false_true h
      by false f true g h = rw (eqb-true k 2 g) (taken_out a v (answer_le 2 a h) h)

-- ---- whatever is served, the rest of the place stays

pub record Keeps (s : List ℕ) (x y : Place) : Type 0 where
  pub taken : y.taken ≡ x.taken
  pub order : y.order ≡ x.order
  pub put : y.put ≤ x.put + 1
  pub from : y.from ≤ first_count s + y.put
  pub length_items : length y.items ≡ length x.items

keeps_served : (s : List ℕ) (x : Place) (i : ℕ) → x.from ≤ first_count s + x.put → Keeps s x (served s x i)
unfolding served
keeps_served s x i low = by (eqb (kind_at s i) 1) (ltb (answer_at s i) 2) (is_there s x) refl
  where
    same : Keeps s x x
    same = record { taken = refl; order = refl; put = omega arith; from = low; length_items = refl }

    by : (a b t : Bool) → is_there s x ≡ t → Keeps s x (pick a (pick b (appended x (item_at s i)) x) (pick t (removed x) x))
    by true true t e = record {
      taken = refl;
      order = refl;
      put = omega arith;
      from = omega arith;
      length_items = length-set x.items x.put (item_at s i);
    }
    by true false t e = same
    by false b true e = record {
      taken = refl;
      order = refl;
      put = omega arith;
      from = omega (arith, ltb-true x.from (first_count s + x.put) e);
      length_items = refl;
    }
    by false b false e = same

-- ---- the laws of a place

both_swap : (a b : Bool) → both a (not b) ≡ pick (not b) a false
both_swap true true = refl
both_swap true false = refl
both_swap false true = refl
both_swap false false = refl

both_turn : (a b c : Bool) → both (both a b) (not c) ≡ both (pick (not c) a false) b
both_turn true b true = by b
  where
    by : (b : Bool) → both b false ≡ false
    by true = refl
    by false = refl
both_turn true b false = by b
  where
    by : (b : Bool) → both b true ≡ b
    by true = refl
    by false = refl
both_turn false b true = refl
both_turn false b false = refl

pick_both : (d z : Bool) → both (not d) z ≡ pick d false z
pick_both true z = refl
pick_both false z = refl

module _ (s : List ℕ) (m : ℕ) (x : Place) (r : Ready s m x) where
  pub order_length : length (order_in x) ≡ x.count
  unfolding order_in
  order_length = length-take-le x.count x.order (omega (arith, r.lengths.1, r.left, r.whole.count))

  due_is : (j : ℕ) → j < count_in s → both (says (at (operations_in s) j).reply) (not (is_in j (order_in x))) ≡ due s x.taken j
  due_is j h =
      rw (says_is s j h (r.clear j h), r.taken j h, flag_zero (is_in j (order_in x)))
      (both_swap (not (eqb (answer_at s j) 0)) (is_in j (order_in x)))

  pub finished_is : finished (operations_in s) (last_in s) (order_in x) (queue_in s x) ≡ is_finished s x
  unfolding finished is_finished any_due
  finished_is =
      rw (
        operation_count s,
        items.same_is s x (omega (arith, r.lengths.2, r.put, r.left, r.whole.count)) r.from,
        find.any_same (λ j. both (says (at (operations_in s) j).reply) (not (is_in j (order_in x)))) (due s x.taken) (count_in s) due_is,
      )
      (pick_both (any (due s x.taken) (count_in s)) (same_queue s x))

  owed_is : (i : ℕ) → i < count_in s → any (owed (operations_in s) (order_in x) i) (length (operations_in s)) ≡ ltb x.bar (began_at s i)
  unfolding owed
  owed_is i h =
      ap (any (owed (operations_in s) (order_in x) i)) (operation_count s)
      ∙ find.any_same (owed (operations_in s) (order_in x) i) (before s x.taken (began_at s i) (at8_le s r.bytes _)) (count_in s) at_j
      ∙ bar_is s x.taken (began_at s i) (at8_le s r.bytes _) (count_in s)
      ∙ ap (λ (b : ℕ). ltb b (began_at s i)) (sym r.bar)
    where
      at_j : (j : ℕ) → j < count_in s → owed (operations_in s) (order_in x) i j ≡ both (due s x.taken j) (ltb (ended_at s j) (began_at s i))
      at_j j l =
          rw (says_is s j l (r.clear j l), operation_is s j l, operation_is s i h, r.taken j l, flag_zero (is_in j (order_in x)))
          (both_turn (not (eqb (answer_at s j) 0)) (ltb (ended_at s j) (began_at s i)) (is_in j (order_in x)))

  -- what taking operation i makes of the queue
  pub taking_is : (i : ℕ) → i < count_in s → 0 < m
      → taking (operations_in s) (order_in x) (queue_in s x) i ≡ elim (is_eligible s x i) as (λ _. Option (List ℕ)) [ true ↦ some (queue_in s (served s x i)) | false ↦ none ]
  unfolding taking is_eligible served
  taking_is i h z =
      ap₂ (λ (b : Bool) (y : Option (List ℕ)). elim (is_in i (order_in x)) as (λ _. Option (List ℕ)) [ true ↦ none | false ↦ elim b as (λ _. Option (List ℕ)) [ true ↦ none | false ↦ y ] ])
      (owed_is i h) (ap (λ (o : Operation). serve o.call o.reply (queue_in s x)) (operation_is s i h))
      ∙ by (is_in i (order_in x)) (ltb x.bar (began_at s i))
      ∙ ap (λ (b : Bool). elim (pick b (pick (ltb x.bar (began_at s i)) false (pick (eqb (kind_at s i) 1) true (gives s x (answer_at s i) (item_at s i)))) false) as (λ _. Option (List ℕ)) [
        | true ↦ some (queue_in s (pick (eqb (kind_at s i) 1) (pick (ltb (answer_at s i) 2) (appended x (item_at s i)) x) (pick (is_there s x) (removed x) x)))
        | false ↦ none
      ]) (sym (ap (λ (k : ℕ). eqb k 0) (r.taken i h) ∙ flag_zero (is_in i (order_in x))))
    where
      on : Option (List ℕ)
      on = elim (pick (eqb (kind_at s i) 1) true (gives s x (answer_at s i) (item_at s i))) as (λ _. Option (List ℕ)) [
        | true ↦ some (queue_in s (pick (eqb (kind_at s i) 1) (pick (ltb (answer_at s i) 2) (appended x (item_at s i)) x) (pick (is_there s x) (removed x) x)))
        | false ↦ none
      ]

      is : serve (call_of (kind_at s i) (item_at s i)) (reply_by (answer_at s i) (item_at s i)) (queue_in s x) ≡ on
      is = serve_is s x (omega (arith, r.lengths.2, r.put, r.left, r.whole.count)) r.from (kind_at s i) (answer_at s i) (item_at s i) (fits_kind s i (r.clear i h))

      by : (a b : Bool) → ◌≡◌ {A = Option (List ℕ)}
          (elim a as (λ _. Option (List ℕ)) [
            | true ↦ none
            | false ↦ elim b as (λ _. Option (List ℕ)) [ true ↦ none | false ↦ serve (call_of (kind_at s i) (item_at s i)) (reply_by (answer_at s i) (item_at s i)) (queue_in s x) ]
          ])
          (elim (pick (not a) (pick b false (pick (eqb (kind_at s i) 1) true (gives s x (answer_at s i) (item_at s i)))) false) as (λ _. Option (List ℕ)) [
            | true ↦ some (queue_in s (pick (eqb (kind_at s i) 1) (pick (ltb (answer_at s i) 2) (appended x (item_at s i)) x) (pick (is_there s x) (removed x) x)))
            | false ↦ none
          ])
      by true b = refl
      by false true = refl
      by false false = is

  -- ---- after a taking

  module _ (i : ℕ) (h : i < count_in s) (z : 0 < m) where
    keeps : Keeps s x (served s x i)
    keeps = keeps_served s x i r.from

    pub order_took : order_in (took s x i) ≡ order_in x ++ (i ∷ [])
    unfolding order_in took
    order_took =
        let n : x.count + 1 ≡ suc x.count = omega arith in
        rw (keeps.order, n) (take-suc-set x.order x.count i (omega (arith, r.lengths.1, r.left, r.whole.count)))

    pub queue_took : queue_in s (took s x i) ≡ queue_in s (served s x i)
    unfolding queue_in items_in took
    queue_took = refl

    pad : x.order ≡ order_in x ++ (0 ∷ replicate (15 - x.count) 0)
    unfolding padded
    pad =
        let n : 16 - length (order_in x) ≡ suc (15 - x.count) = omega (arith, order_length, r.left, r.whole.count) in
        r.order ∙ ap (λ (k : ℕ). order_in x ++ replicate k 0) n

    padded_took : (took s x i).order ≡ padded (order_in x ++ (i ∷ []))
    unfolding took padded
    padded_took =
        let n : 16 - length (order_in x ++ (i ∷ [])) ≡ 15 - x.count = omega (arith, order_length, length-append (order_in x) (i ∷ []), r.left, r.whole.count) in
        ap (λ (l : List ℕ). set l x.count i) (keeps.order ∙ pad)
        ∙ set_at (order_in x) 0 (replicate (15 - x.count) 0) i x.count order_length
        ∙ sym (append_assoc (order_in x) (i ∷ []) (replicate (15 - x.count) 0))
        ∙ ap (λ (k : ℕ). (order_in x ++ (i ∷ [])) ++ replicate k 0) (sym n)

    taken_took : (j : ℕ) → j < count_in s → get_or (set x.taken i 1) j 0 ≡ flag (is_in j (order_in x ++ (i ∷ [])))
    taken_took j l = by (ℕ_discrete j i)
      where
        by : Dec (j ≡ i) → get_or (set x.taken i 1) j 0 ≡ flag (is_in j (order_in x ++ (i ∷ [])))
        by (yes e) = rw (e, in_last i (order_in x)) (get_or-set_same x.taken i 1 0 (omega (arith, r.lengths.0, r.whole.count)))
        by (no e) = rw (in_other j i (order_in x) e) (get_or-set_other x.taken i j 1 0 e ∙ r.taken j l)

    pub ready_took : Ready s (m - 1) (took s x i)
    unfolding took
    ready_took = record {
      bytes = r.bytes;
      whole = r.whole;
      clear = r.clear;
      left = omega (arith, r.left);
      put = omega (arith, keeps.put, r.put);
      from = keeps.from;
      lengths = (
        length-set (served s x i).taken i 1 ∙ ap length keeps.taken ∙ r.lengths.0,
        length-set (served s x i).order x.count i ∙ ap length keeps.order ∙ r.lengths.1,
        keeps.length_items ∙ r.lengths.2,
      );
      order = padded_took ∙ ap padded (sym order_took);
      taken = λ j l. rw (order_took, keeps.taken) (taken_took j l);
      bar = refl;
    }

-- ---- before the first taking

pub order_fresh : (s : List ℕ) → order_in (fresh s) ≡ []
unfolding order_in fresh
order_fresh s = refl

pub queue_fresh : (s : List ℕ) → queue_in s (fresh s) ≡ first_in s
unfolding queue_in items_in fresh
queue_fresh s = append-nil (first_in s)

pub ready_fresh : (s : List ℕ) → Bytes s → Whole s → Clear s → Ready s (count_in s) (fresh s)
unfolding fresh no_bytes no_items order_in padded is_in
ready_fresh s b w c = record {
  bytes = b;
  whole = w;
  clear = c;
  left = omega arith;
  put = omega arith;
  from = omega arith;
  lengths = (refl, refl, refl);
  order = refl;
  taken = λ j l. get_or-replicate 16 j 0 0 (omega (arith, w.count));
  bar = refl;
}

-- The items that a place shows, and when they are the recovered ones. Assumes nothing.
use Prim.Native.Nat.{ℕ, suc, ◌+◌, ◌-◌, ◌*◌, ◌≤◌, ◌<◌}
use mathlib.Core.Path.{◌≡◌, refl, sym, ap, ap₂, ◌∙◌}
use mathlib.Core.Bool.{Bool, true, false, not}
use mathlib.Core.List.{List, [], ◌∷◌, ◌++◌, append_assoc}
use native.Mathlib.Omega.{arith}
use native.Mathlib.Decide.{dec_lt}
use lib.ListN.{length, get_or, set, take, drop, length-append, length-drop, drop_of_length-le, get_or-append}
use lib.Seq.{length-take-le, drop-cons, drop-append-le, take-suc-set, get_or-take, get_or-drop, get_or-append-add, ext_get_or}
use lib.Dec.{eqb}
use borrow.Author.Tests.{lt-ltb, le-ltb, ltb-true, ltb-false, eqb-true, eq-eqb, not-true, not-false}
use Rattle.lists.specs.Find.{pick, any}
use Rattle.lists.proofs.BoolLaws.{false_true}
use Rattle.lists.proofs.FindLaws as find
use Rattle.lists.proofs.TabLaws.{length_tab, get_or_tab}
use Rattle.image.specs.Bytes.{at4}
use Rattle.judging.specs.History.{first_count, last_count, first_in, last_in}
use Rattle.judging.specs.Search.{same_items}
use Rattle.judging.specs.Place.{items_in, queue_in, item_of, is_there, differs, same_queue, appended, removed}
use Rattle.judging.specs.declared.Place.{Place}

-- ---- equal lists of items

pub same_items_lem : (l m : List ℕ) → same_items l m ≡ true → l ≡ m
unfolding same_items
same_items_lem [] [] e = refl
same_items_lem [] (b ∷ m) e = false_true e
same_items_lem (a ∷ l) [] e = false_true e
same_items_lem (a ∷ l) (b ∷ m) e = by (eqb a b) refl e (same_items_lem l m)
  where
    by : (x : Bool) → eqb a b ≡ x → ◌≡◌ {A = Bool} (elim x [ true ↦ same_items l m | false ↦ false ]) true → (same_items l m ≡ true → l ≡ m) → ◌≡◌ {A = List ℕ} (a ∷ l) (b ∷ m)
    by true f h r = ap₂ (λ (x : ℕ) (y : List ℕ). x ∷ y) (eqb-true a b f) (r h)
    by false f h r = false_true h

pub items_same : (l : List ℕ) → same_items l l ≡ true
unfolding same_items
items_same [] = refl
items_same (a ∷ l) = rw (eq-eqb a a refl, same_items) (items_same l)

-- two tests that hold together
pub tests_same : (a b : Bool) → (a ≡ true → b ≡ true) → (b ≡ true → a ≡ true) → a ≡ b
tests_same true b f g = sym (f refl)
tests_same false true f g = g refl
tests_same false false f g = refl

-- ---- the items of a place

module _ (s : List ℕ) (x : Place) (fits : x.put ≤ length x.items) where
  pub items_length : length (items_in s x) ≡ first_count s + x.put
  unfolding items_in first_in
  items_length =
      length-append (first_in s) (take x.put x.items)
      ∙ ap₂ ◌+◌ (length_tab (λ p. at4 s (3 + p * 4)) (first_count s)) (length-take-le x.put x.items fits)

  pub item_is : (p : ℕ) → p < first_count s + x.put → get_or (items_in s x) p 0 ≡ item_of s x p
  unfolding items_in item_of first_in
  item_is p h = by (dec_lt p (first_count s))
    where
      n : length (first_in s) ≡ first_count s
      n = length_tab (λ p. at4 s (3 + p * 4)) (first_count s)

      by : Dec (p < first_count s) → get_or (first_in s ++ take x.put x.items) p 0 ≡ item_of s x p
      by (yes l) =
          get_or-append (first_in s) (take x.put x.items) 0 p (omega (arith, n)) ∙ get_or_tab (λ p. at4 s (3 + p * 4)) (first_count s) p 0 l
          ∙ rw (lt-ltb p (first_count s) l)
      by (no l) =
          ap (λ (z : ℕ). get_or (first_in s ++ take x.put x.items) z 0) (omega (arith, n))
          ∙ get_or-append-add (first_in s) (take x.put x.items) (p - first_count s) 0
          ∙ get_or-take x.put x.items (p - first_count s) 0 (omega arith)
          ∙ rw (le-ltb p (first_count s) (omega arith))

  module _ (low : x.from ≤ first_count s + x.put) where
    pub queue_length : length (queue_in s x) ≡ first_count s + x.put - x.from
    unfolding queue_in
    queue_length = length-drop x.from (items_in s x) ∙ ap (λ (z : ℕ). z - x.from) items_length

    pub queue_at : (p : ℕ) → x.from + p < first_count s + x.put → get_or (queue_in s x) p 0 ≡ item_of s x (x.from + p)
    unfolding queue_in
    queue_at p h = get_or-drop x.from (items_in s x) p 0 ∙ item_is (x.from + p) h

    -- ---- taking one out, and putting one in

    pub queue_some : is_there s x ≡ true → queue_in s x ≡ item_of s x x.from ∷ queue_in s (removed x)
    unfolding queue_in items_in
    queue_some e =
        let l = ltb-true x.from (first_count s + x.put) e in
        let n : suc x.from ≡ x.from + 1 = omega arith in
        drop-cons (items_in s x) x.from 0 (omega (arith, items_length))
        ∙ ap₂ (λ (a : ℕ) (b : ℕ). a ∷ drop b (items_in s x)) (item_is x.from l) n

    pub queue_none : is_there s x ≡ false → queue_in s x ≡ []
    unfolding queue_in
    queue_none e = drop_of_length-le (items_in s x) {i = x.from} (omega (arith, items_length, ltb-false x.from (first_count s + x.put) e))

    pub queue_more : (v : ℕ) → x.put < length x.items → queue_in s (appended x v) ≡ queue_in s x ++ (v ∷ [])
    unfolding queue_in items_in
    queue_more v h =
        let n : x.put + 1 ≡ suc x.put = omega arith in
        ap (λ (z : ℕ). drop x.from (first_in s ++ take z (set x.items x.put v))) n
        ∙ ap (λ (z : List ℕ). drop x.from (first_in s ++ z)) (take-suc-set x.items x.put v h)
        ∙ ap (drop x.from) (sym (append_assoc (first_in s) (take x.put x.items) (v ∷ [])))
        ∙ drop-append-le x.from (items_in s x) (v ∷ []) (omega (arith, items_length))

    -- ---- the recovered queue

    last_length : length (last_in s) ≡ last_count s
    unfolding last_in
    last_length = length_tab (λ p. at4 s (3 + first_count s * 4 + p * 4)) (last_count s)

    last_at : (p : ℕ) → p < last_count s → get_or (last_in s) p 0 ≡ at4 s (3 + first_count s * 4 + p * 4)
    unfolding last_in
    last_at p h = get_or_tab (λ p. at4 s (3 + first_count s * 4 + p * 4)) (last_count s) p 0 h

    pub same_is : same_items (queue_in s x) (last_in s) ≡ same_queue s x
    unfolding same_queue
    same_is = tests_same (same_items (queue_in s x) (last_in s)) (same_queue s x) there back
      where
        there : same_items (queue_in s x) (last_in s) ≡ true → same_queue s x ≡ true
        there e =
            let q = same_items_lem (queue_in s x) (last_in s) e in
            let n : first_count s + x.put ≡ x.from + last_count s = omega (arith, ap length q, queue_length, last_length) in
            let d : any (differs s x) (last_count s) ≡ false = find.any_none (differs s x) (last_count s)
            (λ p h. rw (eq-eqb _ _ (sym (queue_at p (omega arith)) ∙ ap (λ (z : List ℕ). get_or z p 0) q ∙ last_at p h))) in
            rw (eq-eqb _ _ n, d)

        back : same_queue s x ≡ true → same_items (queue_in s x) (last_in s) ≡ true
        back e = by (eqb (first_count s + x.put) (x.from + last_count s)) refl e
          where
            by : (b : Bool) → eqb (first_count s + x.put) (x.from + last_count s) ≡ b → pick b (not (any (differs s x) (last_count s))) false ≡ true
                → same_items (queue_in s x) (last_in s) ≡ true
            by false f h = false_true h
            by true f h =
                let n = eqb-true (first_count s + x.put) (x.from + last_count s) f in
                let c = not-true (any (differs s x) (last_count s)) h in
                rw (ext_get_or 0 (queue_in s x) (last_in s) (omega (arith, queue_length, last_length))
                (λ p l. queue_at p (omega (arith, queue_length))
                ∙ eqb-true _ _ (not-false _ (find.any_clear (differs s x) (last_count s) p c (omega (arith, queue_length))))
                ∙ sym (last_at p (omega (arith, queue_length)))))
                (items_same (last_in s))

-- A history written as bytes and read again: the same queues and operations, each item as the number that its four bytes are; and it is taken.
use Prim.Native.Nat.{ℕ, zero, suc, ◌+◌, ◌*◌, ◌^◌, ◌≤◌, ◌<◌}
use mathlib.Core.Path.{◌≡◌, refl, sym, ap, ap₂, subst, ◌∙◌}
use mathlib.Core.Bool.{Bool, true, false, not}
use mathlib.Core.List.{List, [], ◌∷◌, ◌++◌, map}
use native.Mathlib.Omega.{arith}
use native.Mathlib.Nat.{add-zero, zero-add}
use lib.ListN.{length, get_or, length-append, get_or-append}
use lib.Seq.{get_or-append-add, take_all}
use lib.Dec.{eqb, ltb, leb}
use borrow.Author.Tests.{le-leb, le-ltb, eq-eqb}
use Rattle.lists.specs.Find.{both, least}
use Rattle.lists.specs.Tab.{tab}
use Rattle.lists.proofs.BoolLaws.{both_of, false_true}
use Rattle.lists.proofs.FindLaws.{least_none}
use Rattle.lists.proofs.TabLaws.{length_joined, get_or_joined, get_or_tab, tab_same, map_tab, take_drop_tab}
use Rattle.answer.specs.Answers.{check, Taken, Length}
use Rattle.image.specs.Bytes.{le, le4, num_of, at_w, at1, at4}
use Rattle.image.proofs.ByteLaws.{num_le, at_same}
use Rattle.lawful.specs.Operation.{Operation, Reply, nothing, done, full, worn_out, empty, gave, Call, puts, takes}
use Rattle.lawful.specs.Lawful.{at, no_operation}
use Rattle.judging.specs.History.{count_in, first_count, last_count, operation_place, kind_at, began_at, ended_at, answer_at, item_at, first_in, last_in, call_of, reply_by, operation_at, operations_in, kind_fits, time_fits, fits, odd, first_odd, fault_at, sized, history_answer}
use Rattle.judgeproof.specs.Written.{kind_of, answer_of, item_of, operation_bytes, queue_bytes, operations_bytes, history_bytes}
use Rattle.judgeproof.proofs.Renamed.{renamed_call, renamed_reply, renamed}

-- the number that four bytes of an item are: the item itself, which has 32 bits
abbrev pub low : ℕ → ℕ
low v = num_of (le4 v)

pub low_same : (v : ℕ) → v < 2 ^ 32 → low v ≡ v
low_same v h = num_le 4 v h

-- a list is its elements
tab_all : {A : Type 0} (l : List A) (d : A) → tab (λ i. get_or l i d) (length l) ≡ l
tab_all l d =
    tab_same (λ i. get_or l i d) (λ i. get_or l (0 + i) d) (length l) (λ i h. ap (λ (k : ℕ). get_or l k d) (sym (zero-add i)))
    ∙ sym (take_drop_tab l d 0 (length l) (omega arith)) ∙ take_all (length l) l (omega arith)

call_back : (c : Call) (r : Reply) → call_of (kind_of c) (low (item_of c r)) ≡ renamed_call low c
call_back (puts v) r = refl
call_back takes r = refl

reply_back : (c : Call) (r : Reply) → kind_fits (kind_of c) (answer_of r) ≡ true → reply_by (answer_of r) (low (item_of c r)) ≡ renamed_reply low r
unfolding kind_fits
reply_back c nothing e = refl
reply_back c done e = refl
reply_back c full e = refl
reply_back c worn_out e = refl
reply_back c empty e = refl
reply_back (puts v) (gave x) e = false_true e
reply_back takes (gave x) e = refl

-- where an operation's numbers stand
began_here : (o : Operation) → at_w 8 (operation_bytes o) 1 ≡ num_of (le 8 o.began)
unfolding at_w
began_here o = refl

ended_here : (o : Operation) → at_w 8 (operation_bytes o) 9 ≡ num_of (le 8 o.ended)
unfolding at_w
ended_here o = refl

item_here : (o : Operation) → at_w 4 (operation_bytes o) 18 ≡ low (item_of o.call o.reply)
unfolding at_w
item_here o = refl

module _ (ops : List Operation) (first last : List ℕ) where
  abbrev h : List ℕ
  h = history_bytes ops first last

  abbrev item_bytes : List ℕ → ℕ → List ℕ
  item_bytes q p = le4 (get_or q p 0)

  length_queue : (q : List ℕ) → length (queue_bytes q) ≡ length q * 4
  unfolding queue_bytes
  length_queue q = length_joined (item_bytes q) 4 (length q) (λ i. refl)

  length_operations : length (operations_bytes ops) ≡ length ops * 22
  unfolding operations_bytes
  length_operations = length_joined (λ i. operation_bytes (at ops i)) 22 (length ops) (λ i. refl)

  abbrev counts : List ℕ
  counts = length ops ∷ length first ∷ length last ∷ []

  pub size_back : length h ≡ 3 + length first * 4 + length last * 4 + length ops * 22
  unfolding history_bytes
  size_back = omega (
    arith,
    length-append (queue_bytes first) (queue_bytes last ++ operations_bytes ops),
    length-append (queue_bytes last) (operations_bytes ops),
    length_queue first,
    length_queue last,
    length_operations,
  )

  -- ---- byte by byte

  in_first : (p j : ℕ) → p < length first → j < 4 → get_or h (3 + p * 4 + j) 0 ≡ get_or (item_bytes first p) j 0
  unfolding history_bytes queue_bytes
  in_first p j a b =
      let e : 3 + p * 4 + j ≡ 3 + (p * 4 + j) = omega arith in
      ap (λ (k : ℕ). get_or h k 0) e
      ∙ get_or-append-add counts (queue_bytes first ++ (queue_bytes last ++ operations_bytes ops)) (p * 4 + j) 0
      ∙ get_or-append (queue_bytes first) (queue_bytes last ++ operations_bytes ops) 0 (p * 4 + j) (omega (arith, length_queue first))
      ∙ get_or_joined (item_bytes first) 4 (length first) p j 0 (λ i. refl) a b

  in_last : (p j : ℕ) → p < length last → j < 4 → get_or h (3 + length first * 4 + p * 4 + j) 0 ≡ get_or (item_bytes last p) j 0
  unfolding history_bytes queue_bytes
  in_last p j a b =
      let e : 3 + length first * 4 + p * 4 + j ≡ 3 + (length (queue_bytes first) + (p * 4 + j)) = omega (arith, length_queue first) in
      ap (λ (k : ℕ). get_or h k 0) e
      ∙ get_or-append-add counts (queue_bytes first ++ (queue_bytes last ++ operations_bytes ops)) (length (queue_bytes first) + (p * 4 + j)) 0
      ∙ get_or-append-add (queue_bytes first) (queue_bytes last ++ operations_bytes ops) (p * 4 + j) 0
      ∙ get_or-append (queue_bytes last) (operations_bytes ops) 0 (p * 4 + j) (omega (arith, length_queue last))
      ∙ get_or_joined (item_bytes last) 4 (length last) p j 0 (λ i. refl) a b

  in_operation : (i j : ℕ) → i < length ops → j < 22 → get_or h (3 + length first * 4 + length last * 4 + i * 22 + j) 0 ≡ get_or (operation_bytes (at ops i)) j 0
  unfolding history_bytes operations_bytes
  in_operation i j a b =
      let e : 3 + length first * 4 + length last * 4 + i * 22 + j ≡ 3 + (length (queue_bytes first) + (length (queue_bytes last) + (i * 22 + j))) =
      omega (arith, length_queue first, length_queue last) in
      ap (λ (k : ℕ). get_or h k 0) e
      ∙ get_or-append-add counts (queue_bytes first ++ (queue_bytes last ++ operations_bytes ops)) (length (queue_bytes first) + (length (queue_bytes last) + (i * 22 + j))) 0
      ∙ get_or-append-add (queue_bytes first) (queue_bytes last ++ operations_bytes ops) (length (queue_bytes last) + (i * 22 + j)) 0
      ∙ get_or-append-add (queue_bytes last) (operations_bytes ops) (i * 22 + j) 0
      ∙ get_or_joined (λ i. operation_bytes (at ops i)) 22 (length ops) i j 0 (λ i. refl) a b

  -- ---- the queues

  first_at : (p : ℕ) → p < length first → at4 h (3 + p * 4) ≡ low (get_or first p 0)
  unfolding at_w
  first_at p a =
      ap (at4 h) (sym (add-zero (3 + p * 4)))
      ∙ at_same 4 h (item_bytes first p) (3 + p * 4) 0 4 (λ j b. in_first p j a b) (omega arith) (omega (arith, size_back)) (omega arith)

  last_at : (p : ℕ) → p < length last → at4 h (3 + length first * 4 + p * 4) ≡ low (get_or last p 0)
  unfolding at_w
  last_at p a =
      ap (at4 h) (sym (add-zero (3 + length first * 4 + p * 4)))
      ∙ at_same 4 h (item_bytes last p) (3 + length first * 4 + p * 4) 0 4 (λ j b. in_last p j a b) (omega arith) (omega (arith, size_back)) (omega arith)

  pub first_back : first_in h ≡ map low first
  unfolding first_in history_bytes
  first_back =
      tab_same (λ p. at4 h (3 + p * 4)) (λ p. low (get_or first p 0)) (length first) first_at
      ∙ sym (map_tab low (λ p. get_or first p 0) (length first)) ∙ ap (map low) (tab_all first 0)

  pub last_back : last_in h ≡ map low last
  unfolding last_in history_bytes
  last_back =
      tab_same (λ p. at4 h (3 + length first * 4 + p * 4)) (λ p. low (get_or last p 0)) (length last) last_at
      ∙ sym (map_tab low (λ p. get_or last p 0) (length last)) ∙ ap (map low) (tab_all last 0)

  -- ---- the operations

  module _ (i : ℕ) (a : i < length ops) where
    abbrev o : Operation
    o = at ops i

    number_at : (w j : ℕ) → j + w ≤ 22 → at_w w h (operation_place h i + j) ≡ at_w w (operation_bytes o) j
    unfolding history_bytes
    number_at w j b = at_same w h (operation_bytes o) (operation_place h i) j 22 (λ k c. in_operation i k a c) b (omega (arith, size_back)) b

    kind_back : kind_at h i ≡ kind_of o.call
    unfolding history_bytes
    kind_back = ap (λ (k : ℕ). get_or h k 0) (sym (add-zero (operation_place h i))) ∙ in_operation i 0 a (omega arith)

    answer_back : answer_at h i ≡ answer_of o.reply
    unfolding history_bytes
    answer_back = in_operation i 17 a (omega arith)

    item_back : item_at h i ≡ low (item_of o.call o.reply)
    item_back = number_at 4 18 (omega arith) ∙ item_here o

    began_back : o.began < 256 ^ 8 → began_at h i ≡ o.began
    began_back b = number_at 8 1 (omega arith) ∙ began_here o ∙ num_le 8 o.began b

    ended_back : o.ended < 256 ^ 8 → ended_at h i ≡ o.ended
    ended_back b = number_at 8 9 (omega arith) ∙ ended_here o ∙ num_le 8 o.ended b

    -- with times of 64 bits, and an answer that its kind can have
    module _ (b : o.began < 256 ^ 8) (e : o.ended < 256 ^ 8) (k : kind_fits (kind_of o.call) (answer_of o.reply) ≡ true) where
      operation_back : operation_at h i ≡ renamed low o
      operation_back = λ z. record {
        thread = 0;
        call = (ap₂ call_of kind_back item_back ∙ call_back o.call o.reply) z;
        began = began_back b z;
        reply = (ap₂ reply_by answer_back item_back ∙ reply_back o.call o.reply k) z;
        ended = ended_back e z;
      }

      fits_back : time_fits (answer_of o.reply) o.began o.ended ≡ true → fits h i ≡ true
      unfolding fits
      fits_back t = both_of (kind_fits (kind_at h i) (answer_at h i)) (time_fits (answer_at h i) (began_at h i) (ended_at h i))
          (ap₂ kind_fits kind_back answer_back ∙ k)
          (rw (answer_back, began_back b, ended_back e) t)

  -- what is asked of the operations
  pub record Ordinary : Type 0 where
    pub began : (i : ℕ) → i < length ops → (at ops i).began < 256 ^ 8
    pub ended : (i : ℕ) → i < length ops → (at ops i).ended < 256 ^ 8
    pub kinds : (i : ℕ) → i < length ops → kind_fits (kind_of (at ops i).call) (answer_of (at ops i).reply) ≡ true
    pub times : (i : ℕ) → i < length ops → time_fits (answer_of (at ops i).reply) (at ops i).began (at ops i).ended ≡ true

  pub operations_back : Ordinary → operations_in h ≡ map (renamed low) ops
  unfolding operations_in history_bytes
  operations_back w =
      tab_same (operation_at h) (λ i. renamed low (at ops i)) (length ops) (λ i a. operation_back i a (w.began i a) (w.ended i a) (w.kinds i a))
      ∙ sym (map_tab (renamed low) (at ops) (length ops)) ∙ ap (map (renamed low)) (tab_all ops no_operation)

  sized_back : length ops ≤ 16 → length first ≤ 63 → length last ≤ 63 → sized h ≡ true
  unfolding sized history_bytes
  sized_back n a b =
      both_of _ _ (le-leb 3 (length h) (omega (arith, size_back)))
      (both_of _ _ (le-leb (length ops) 16 n)
      (both_of _ _ (le-leb (length first) 63 a)
      (both_of _ _ (le-leb (length last) 63 b) (eq-eqb (length h) (operation_place h (length ops)) size_back))))

  none_odd : Ordinary → first_odd h ≡ length ops
  unfolding first_odd odd history_bytes
  none_odd w =
      least_none (odd h) (length ops) 0 (λ i a b. let c : i < length ops = omega arith in ap not (fits_back i c (w.began i c) (w.ended i c) (w.kinds i c) (w.times i c)))
      ∙ zero-add (length ops)

  -- at most 16 operations, at most 63 items in each queue: it is taken
  pub taken_back : Ordinary → length ops ≤ 16 → length first ≤ 63 → length last ≤ 63 → history_answer h ≡ Taken
  unfolding history_answer history_bytes
  taken_back w n a b =
      ap₂ (λ (x y : Bool). check (not x) Length (check y (fault_at h (first_odd h)) Taken))
      (sized_back n a b)
      (le-ltb (first_odd h) (length ops) (omega (arith, none_odd w)))

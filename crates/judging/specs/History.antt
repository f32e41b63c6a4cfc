-- A history as bytes: how many operations, items at the start and items recovered there are (a byte each), the items (4 bytes each), then 22 bytes
-- an operation: kind, begin time (8), answer time (8), answer, item (4). Numbers are little-endian.
use Rattle.std.specs.Prelude.{ℕ, ◌+◌, ◌*◌, Bool, true, not, List, [], ◌∷◌, length, get_or, eqb, ltb, leb}
use Rattle.lists.specs.Find.{pick, both, least}
use Rattle.lists.specs.Tab.{tab}
use Rattle.answer.specs.Answers.{check, Answer, Taken, Length, Kind, NotZero}
use Rattle.image.specs.Bytes.{at_w, at1, at4}
use Rattle.lawful.specs.Operation.{Operation, Reply, nothing, done, full, worn_out, empty, gave, Call, puts, takes}

-- a number of 64 bits
abbrev pub at8 : List ℕ → ℕ → ℕ
at8 = at_w 8

-- how many operations there are, items in the queue at the start, items in the recovered queue
abbrev pub count_in : List ℕ → ℕ
count_in s = at1 s 0

abbrev pub first_count : List ℕ → ℕ
first_count s = at1 s 1

abbrev pub last_count : List ℕ → ℕ
last_count s = at1 s 2

-- where operation i begins; where a history of i operations ends
abbrev pub operation_place : List ℕ → ℕ → ℕ
operation_place s i = 3 + first_count s * 4 + last_count s * 4 + i * 22

abbrev pub kind_at : List ℕ → ℕ → ℕ
kind_at s i = at1 s (operation_place s i)

abbrev pub began_at : List ℕ → ℕ → ℕ
began_at s i = at8 s (operation_place s i + 1)

abbrev pub ended_at : List ℕ → ℕ → ℕ
ended_at s i = at8 s (operation_place s i + 9)

abbrev pub answer_at : List ℕ → ℕ → ℕ
answer_at s i = at1 s (operation_place s i + 17)

abbrev pub item_at : List ℕ → ℕ → ℕ
item_at s i = at4 s (operation_place s i + 18)

-- ---- what the bytes mean

-- the queue at the start, and the recovered one
unfoldable pub first_in : List ℕ → List ℕ
first_in s = tab (λ p. at4 s (3 + p * 4)) (first_count s)

unfoldable pub last_in : List ℕ → List ℕ
last_in s = tab (λ p. at4 s (3 + first_count s * 4 + p * 4)) (last_count s)

-- kind 1 is an enqueue, 2 a dequeue
abbrev pub call_of : ℕ → ℕ → Call
call_of kind v = pick (eqb kind 1) (puts v) takes

-- 0 none, 1 Done, 2 Full, 3 Worn out, 4 an item, 5 Empty
abbrev pub reply_by : ℕ → ℕ → Reply
reply_by a v = get_or (nothing ∷ done ∷ full ∷ worn_out ∷ gave v ∷ empty ∷ []) a nothing

abbrev pub operation_at : List ℕ → ℕ → Operation
operation_at s i = record {
  thread = 0;
  call = call_of (kind_at s i) (item_at s i);
  began = began_at s i;
  reply = reply_by (answer_at s i) (item_at s i);
  ended = ended_at s i;
}

unfoldable pub operations_in : List ℕ → List Operation
operations_in s = tab (operation_at s) (count_in s)

-- ---- refusals

-- 9: the kind is 1 or 2, and the answer one that its kind can have
unfoldable pub kind_fits : ℕ → ℕ → Bool
kind_fits k a = pick (eqb k 1) (ltb a 4) (both (eqb k 2) (pick (eqb a 0) true (pick (eqb a 4) true (eqb a 5))))

-- 13: an answer is not before its begin; where there is none its time is zero
unfoldable pub time_fits : ℕ → ℕ → ℕ → Bool
time_fits a began ended = pick (eqb a 0) (eqb ended 0) (leb began ended)

unfoldable pub fits : List ℕ → ℕ → Bool
fits s i = both (kind_fits (kind_at s i) (answer_at s i)) (time_fits (answer_at s i) (began_at s i) (ended_at s i))

unfoldable pub odd : List ℕ → ℕ → Bool
odd s i = not (fits s i)

-- the first operation with a fault; how many there are where none has one
unfoldable pub first_odd : List ℕ → ℕ
first_odd s = least (odd s) (count_in s) 0

-- its fault: 9, then 13
unfoldable pub fault_at : List ℕ → ℕ → Answer
fault_at s i = check (not (kind_fits (kind_at s i) (answer_at s i))) (Kind i) (NotZero i)

-- at most 16 operations, at most 63 items in each queue, and as many bytes as that takes
unfoldable pub sized : List ℕ → Bool
sized s = both (leb 3 (length s)) (both (leb (count_in s) 16) (both (leb (first_count s) 63) (both (leb (last_count s) 63) (eqb (length s) (operation_place s (count_in s))))))

-- 1, then by operation in turn 9, 13
unfoldable pub history_answer : List ℕ → Answer
history_answer s = check (not (sized s)) Length (check (ltb (first_odd s) (count_in s)) (fault_at s (first_odd s)) Taken)

-- the part of it that is asked of a history with as many bytes as it says
abbrev pub odd_answer : List ℕ → Answer
odd_answer s = check (ltb (first_odd s) (count_in s)) (fault_at s (first_odd s)) Taken

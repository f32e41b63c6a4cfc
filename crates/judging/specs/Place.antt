-- Where the search stands, as the code keeps it: the order so far, which operations are taken, the items appended and how many have been taken out again,
-- and the least answer time of those that are answered and not taken. The order and the queue that a place shows are those of the search.
use Rattle.std.specs.Prelude.{ℕ, zero, suc, ◌+◌, ◌-◌, ◌*◌, ◌≤◌, ◌<◌, ◌≡◌, Bool, true, false, not, List, ◌++◌, length, get_or, set, take, drop, replicate, eqb, ltb, Option, Some, None}
use Rattle.lists.specs.Find.{pick, both, least, any}
use Rattle.image.specs.Bytes.{at4}
use Rattle.lawful.specs.Demand3.{Bytes}
use Rattle.judging.specs.History.{count_in, first_count, last_count, operation_place, kind_at, began_at, ended_at, answer_at, item_at, first_in, fits}
use Rattle.judging.specs.Search.{is_in}
use Rattle.judging.specs.declared.Place.{Place}

unfoldable pub no_bytes : List ℕ
no_bytes = replicate 16 0

unfoldable pub no_items : List ℕ
no_items = replicate 16 0

-- sixteen places, zero behind the list
unfoldable pub padded : List ℕ → List ℕ
padded l = l ++ replicate (16 - length l) 0

-- ---- what a place shows

unfoldable pub order_in : Place → List ℕ
order_in x = take x.count x.order

-- every item that was in the queue up to here
unfoldable pub items_in : List ℕ → Place → List ℕ
items_in s x = first_in s ++ take x.put x.items

unfoldable pub queue_in : List ℕ → Place → List ℕ
queue_in s x = drop x.from (items_in s x)

-- ---- what is asked of it

-- operation j is answered and not taken
abbrev pub due : List ℕ → List ℕ → ℕ → Bool
due s taken j = pick (eqb (get_or taken j 0) 0) (not (eqb (answer_at s j) 0)) false

abbrev pub top : ℕ
top = 18446744073709551615

-- the lesser of a time and operation j's answer time, where that is due
unfoldable pub bar_with : List ℕ → List ℕ → ℕ → ℕ → ℕ
bar_with s taken j r = pick (both (due s taken j) (ltb (ended_at s j) r)) (ended_at s j) r

-- the least answer time of those below k that are due
unfoldable pub bar_below : List ℕ → List ℕ → ℕ → ℕ
bar_below s taken zero = top
bar_below s taken (suc k) = bar_with s taken k (bar_below s taken k)

unfoldable pub any_due : List ℕ → List ℕ → Bool
any_due s taken = any (due s taken) (count_in s)

-- the item at place p of all items, those of the start first
unfoldable pub item_of : List ℕ → Place → ℕ → ℕ
item_of s x p = pick (ltb p (first_count s)) (at4 s (3 + p * 4)) (get_or x.items (p - first_count s) 0)

-- whether there is an item to take
abbrev pub is_there : List ℕ → Place → Bool
is_there s x = ltb x.from (first_count s + x.put)

-- the queue's place p and that of the recovered queue differ
abbrev pub differs : List ℕ → Place → ℕ → Bool
differs s x p = not (eqb (item_of s x (x.from + p)) (at4 s (3 + first_count s * 4 + p * 4)))

unfoldable pub same_queue : List ℕ → Place → Bool
same_queue s x = pick (eqb (first_count s + x.put) (x.from + last_count s)) (not (any (differs s x) (last_count s))) false

unfoldable pub is_finished : List ℕ → Place → Bool
is_finished s x = pick (any_due s x.taken) false (same_queue s x)

-- a dequeue with answer a and item v fits the queue
unfoldable pub gives : List ℕ → Place → ℕ → ℕ → Bool
gives s x a v = pick (eqb a 0) true (pick (is_there s x) (pick (eqb a 5) false (eqb (item_of s x x.from) v)) (eqb a 5))

-- operation i is eligible
unfoldable pub is_eligible : List ℕ → Place → ℕ → Bool
is_eligible s x i =
    pick (eqb (get_or x.taken i 0) 0)
    (pick (ltb x.bar (began_at s i)) false (pick (eqb (kind_at s i) 1) true (gives s x (answer_at s i) (item_at s i))))
    false

-- what a search below n found, or that it found none
abbrev pub found : ℕ → ℕ → Option ℕ
found n k = pick (ltb k n) (Some k) None

-- the first eligible operation from i on
unfoldable pub next_from : List ℕ → Place → ℕ → ℕ
next_from s x i = least (is_eligible s x) (count_in s - i) i

-- ---- what a taking makes of it

abbrev pub appended : Place → ℕ → Place
appended x v = record {
  taken = x.taken;
  order = x.order;
  items = set x.items x.put v;
  bar = x.bar;
  count = x.count;
  put = x.put + 1;
  from = x.from;
}

abbrev pub removed : Place → Place
removed x = record {
  taken = x.taken;
  order = x.order;
  items = x.items;
  bar = x.bar;
  count = x.count;
  put = x.put;
  from = x.from + 1;
}

-- the queue after operation i
unfoldable pub served : List ℕ → Place → ℕ → Place
served s x i =
    pick (eqb (kind_at s i) 1)
    (pick (ltb (answer_at s i) 2) (appended x (item_at s i)) x)
    (pick (is_there s x) (removed x) x)

-- and operation i noted, behind c others
abbrev pub noted : List ℕ → ℕ → Place → ℕ → Place
noted s c x i = record {
  taken = set x.taken i 1;
  order = set x.order c i;
  items = x.items;
  bar = bar_below s (set x.taken i 1) (count_in s);
  count = c + 1;
  put = x.put;
  from = x.from;
}

unfoldable pub took : List ℕ → Place → ℕ → Place
took s x i = noted s x.count (served s x i) i

-- before the first taking
unfoldable pub fresh : List ℕ → Place
fresh s = record {
  taken = no_bytes;
  order = no_bytes;
  items = no_items;
  bar = bar_below s no_bytes (count_in s);
  count = 0;
  put = 0;
  from = 0;
}

-- ---- what holds of a history that is taken, and of every place of its search

pub record Whole (s : List ℕ) : Type 0 where
  pub size : length s ≡ operation_place s (count_in s)
  pub count : count_in s ≤ 16
  pub first : first_count s ≤ 63
  pub last : last_count s ≤ 63

-- every operation fits
abbrev pub Clear : List ℕ → Type 0
Clear s = (i : ℕ) → i < count_in s → fits s i ≡ true

-- a byte that says whether it is so
abbrev pub flag : Bool → ℕ
flag true = 1
flag false = 0

-- `rest` operations are not taken
pub record Ready (s : List ℕ) (rest : ℕ) (x : Place) : Type 0 where
  pub bytes : Bytes s
  pub whole : Whole s
  pub clear : Clear s
  pub left : x.count + rest ≡ count_in s
  pub put : x.put ≤ x.count
  pub from : x.from ≤ first_count s + x.put
  pub lengths : (length x.taken ≡ 16) × (length x.order ≡ 16) × (length x.items ≡ 16)
  pub order : x.order ≡ padded (order_in x)
  pub taken : (j : ℕ) → j < count_in s → get_or x.taken j 0 ≡ flag (is_in j (order_in x))
  pub bar : x.bar ≡ bar_below s x.taken (count_in s)

-- The despatch desk's list (request 114): what is known of each enqueue begun since the last start, event by event.
use Rattle.std.specs.Prelude.{ℕ, zero, suc, Bool, true, false, List, [], ◌∷◌, ◌++◌, map, eqb, ltb, Option, None, Some, Ok, Err}
use Rattle.lists.specs.Find.{pick, both}
use Rattle.answer.specs.Answers.{Answer}
use Rattle.answer.specs.declared.Reply.{Reply}
use Rattle.answer.specs.declared.Reply.TheVariants.{Taken, Done, Full, WornOut, Item, Empty}
use Rattle.machine.specs.Record.{node, thread, zero_node, zero_thread}
use Rattle.machine.specs.Stage.{A8, A9, D4, D5, number}
use Rattle.machine.specs.Event.{Deed, unknown, enqueues, dequeues, steps, writes_back, crashes, deed_of, event_at}
use Rattle.machine.specs.declared.Machine.{Machine}
use Rattle.machine.specs.declared.Node.{Node}
use Rattle.machine.specs.declared.Thread.{Thread}
use Rattle.machine.specs.declared.Event.{Event}
use Rattle.machine.specs.declared.Acted.{Acted}
use Rattle.schedule.specs.Layout.{event_in, count_in}
use Rattle.schedule.specs.Running.{bench_to}
use Rattle.parcels.specs.declared.News.{News}
use Rattle.parcels.specs.declared.News.TheVariants.{Nothing, Linked, Answered, Took, Gave}
use Rattle.parcels.specs.declared.Parcel.{Parcel}

-- ---- a thread and a node of a record; a number beyond the record's places names nothing

abbrev pub thread_at : Machine → ℕ → Thread
thread_at m k = pick (ltb k 8) (thread m k) zero_thread

abbrev pub node_at : Machine → ℕ → Node
node_at m i = pick (ltb i 64) (node m i) zero_node

-- ---- what a step of thread k tells: nothing, a link, an answer that is no item, a node taken, an item answered

-- "its link step was done": A8 went on to A9; m is the machine before the step, m' after it
abbrev pub links : Machine → Machine → ℕ → Bool
links m m' k = both (eqb (thread_at m k).step (number A8)) (eqb (thread_at m' k).step (number A9))

-- a dequeue took the next node that it had read: D4 went on to D5
abbrev pub takes : Machine → Machine → ℕ → Bool
takes m m' k = both (eqb (thread_at m k).step (number D4)) (eqb (thread_at m' k).step (number D5))

-- by what the step answered
abbrev pub said_news : ℕ → Answer → News
said_news k (Ok Taken) = Nothing
said_news k (Ok Done) = Answered k Done
said_news k (Ok Full) = Answered k Full
said_news k (Ok WornOut) = Answered k WornOut
said_news k (Ok (Item v)) = Gave k
said_news k (Ok Empty) = Answered k Empty
said_news k (Err e) = Nothing

-- the index of the node linked, or taken, is that at the step
unfoldable pub news_of : Machine → ℕ → Answer → Machine → News
news_of m k a m' =
    pick (links m m' k) (Linked k (thread_at m k).node (node_at m (thread_at m k).node).index)
    (pick (takes m m' k) (Took k (node_at m (thread_at m k).next).index) (said_news k a))

-- ---- what is known of an enqueue: what it has answered (Taken: nothing yet), where it was linked (node 255: nowhere), which thread's dequeue
-- took it, whether that one answered with it

abbrev pub no_parcel : Parcel
no_parcel = record { index = 0; item = 0; began = 0; thread = 0; node = 0; said = Taken; taker = None; handed = false }

-- event i begins it
abbrev pub fresh : ℕ → Event → Parcel
fresh i e = record { index = 0; item = e.item; began = i; thread = e.number; node = 255; said = Taken; taker = None; handed = false }

abbrev pub with_link : Parcel → ℕ → ℕ → Parcel
with_link p i x = record { index = x; item = p.item; began = p.began; thread = p.thread; node = i; said = p.said; taker = p.taker; handed = p.handed }

abbrev pub with_said : Parcel → Reply → Parcel
with_said p r = record { index = p.index; item = p.item; began = p.began; thread = p.thread; node = p.node; said = r; taker = p.taker; handed = p.handed }

abbrev pub with_taker : Parcel → ℕ → Parcel
with_taker p k = record { index = p.index; item = p.item; began = p.began; thread = p.thread; node = p.node; said = p.said; taker = Some k; handed = p.handed }

abbrev pub with_handed : Parcel → Parcel
with_handed p = record { index = p.index; item = p.item; began = p.began; thread = p.thread; node = p.node; said = p.said; taker = p.taker; handed = true }

-- nothing is answered yet
abbrev pub is_open : Reply → Bool
is_open Taken = true
is_open Done = false
is_open Full = false
is_open WornOut = false
is_open (Item v) = false
is_open Empty = false

-- Full, or Worn out
abbrev pub turns_away : Reply → Bool
turns_away Taken = false
turns_away Done = false
turns_away Full = true
turns_away WornOut = true
turns_away (Item v) = false
turns_away Empty = false

-- it is the operation that thread k has
abbrev pub is_of : ℕ → Parcel → Bool
is_of k p = both (eqb p.thread k) (is_open p.said)

-- it was linked, on one of the 64 nodes
abbrev pub is_linked : Parcel → Bool
is_linked p = ltb p.node 64

-- a dequeue is matched by the index of the node that it took, never by the item
abbrev pub has_index : ℕ → Parcel → Bool
has_index x p = both (is_linked p) (eqb p.index x)

-- thread k's dequeue took it
abbrev pub is_thread : ℕ → Option ℕ → Bool
is_thread k None = false
is_thread k (Some u) = eqb u k

abbrev pub is_taken_by : ℕ → Parcel → Bool
is_taken_by k p = is_thread k p.taker

-- what is known of it after the news w
unfoldable pub moved : News → Parcel → Parcel
moved Nothing p = p
moved (Linked k i x) p = pick (is_of k p) (with_link p i x) p
moved (Answered k r) p = pick (is_of k p) (with_said p r) p
moved (Took k x) p = pick (has_index x p) (with_taker p k) p
moved (Gave k) p = pick (is_taken_by k p) (with_handed p) p

-- ---- the enqueues begun since the last start, in begin order

-- what event i, which was taken with the outcome o, makes of them; m is the machine before it
abbrev pub noted : ℕ → Event → Machine → Acted → List Parcel → Deed → List Parcel
noted i e m o l unknown = l
noted i e m o l enqueues = l ++ (fresh i e ∷ [])
noted i e m o l dequeues = l
noted i e m o l steps = map (moved (news_of m e.number o.answer o.machine)) l
noted i e m o l writes_back = l
noted i e m o l crashes = []

-- the machine before event i of a schedule, and what the event makes of it
abbrev pub machine_at : List ℕ → ℕ → Machine
machine_at s i = (bench_to s i).machine

abbrev pub acted_at : List ℕ → ℕ → Acted
acted_at s i = event_at i (machine_at s i) (event_in s i)

-- after the first i events
unfoldable pub parcels_to : List ℕ → ℕ → List Parcel
parcels_to s zero = []
parcels_to s (suc i) = noted i (event_in s i) (machine_at s i) (acted_at s i) (parcels_to s i) (deed_of (event_in s i).kind)

-- of the whole schedule
abbrev pub parcels_in : List ℕ → List Parcel
parcels_in s = parcels_to s (count_in s)

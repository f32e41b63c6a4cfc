-- Answering, retiring and waiting; which node A1 takes.
use Rattle.std.specs.Prelude.{ℕ, zero, suc, Bool, not, eqb}
use Rattle.lists.specs.Find.{pick, both, around}
use Rattle.lists.specs.Word.{has, with, without, word_of}
use Rattle.answer.specs.Answers.{Answer, Taken}
use Rattle.machine.specs.Record.{none, node, thread, with_waits, at_step, idle_thread, put_node, put_free, put_last, put_thread}
use Rattle.machine.specs.Stage.{busy}
use Rattle.machine.specs.Line.{Line, nothing, a_store, a_persist, a_flush, a_fence}
use Rattle.machine.specs.declared.Machine.{Machine}
use Rattle.machine.specs.declared.Acted.{Acted}
use Rattle.machine.specs.declared.Out.{Out}
use Rattle.machine.specs.declared.Thread.{Thread}

abbrev pub out : Answer → Machine → Out
out a m = record { answer = a; machine = m }

-- ---- what a step answers, the machine that it leaves, and the line that it touches

-- it touches no line
abbrev pub quiet : Answer → Machine → Acted
quiet a m = record { answer = a; machine = m; touch = nothing }

-- the same, and it stores to line l
abbrev pub storing : Line → Acted → Acted
storing l o = record { answer = o.answer; machine = o.machine; touch = a_store l }

-- the same, and it persists line l at once
abbrev pub persisting : Line → Acted → Acted
persisting l o = record { answer = o.answer; machine = o.machine; touch = a_persist l }

-- the same, and it is thread k's flush of line l; its fence
abbrev pub flushing : ℕ → Line → Acted → Acted
flushing k l o = record { answer = o.answer; machine = o.machine; touch = a_flush k l }

abbrev pub fencing : ℕ → Line → Acted → Acted
fencing k l o = record { answer = o.answer; machine = o.machine; touch = a_fence k l }

-- thread k, now v, goes on to step s
abbrev pub moving : Machine → ℕ → Thread → ℕ → Acted
moving m k v s = quiet Taken (put_thread m k (at_step v s))

-- thread k goes on to step s, and has read nothing new
abbrev pub going : Machine → ℕ → ℕ → Acted
going m k s = moving m k (thread m k) s

-- ---- the free set

-- #106: "A1 is to take the first free node after the one last handed out, going round past the end"; the one last handed out comes
-- at the end of the round; N where none is free
unfoldable pub next_free : Machine → ℕ
next_free m = around (has m.free) m.n m.last

-- node i is handed out: it is no longer free, and it is the one last handed out
abbrev pub hand_out : Machine → ℕ → Machine
hand_out m i = put_last (put_free m (without m.free i)) i

-- node i becomes free
abbrev pub freed : Machine → ℕ → Machine
freed m i = put_free m (with m.free i)

-- ---- answering

-- the set w is thread k alone
abbrev pub last_wait : ℕ → ℕ → Bool
last_wait w k = both (has w k) (eqb (without w k) 0)

-- node i no longer waits for thread k; "When the last of these has answered, the node is free"
unfoldable pub released_at : Machine → ℕ → ℕ → Machine
released_at m k i =
    put_free (put_node m i (with_waits (node m i) (without (node m i).waits k)))
    (pick (last_wait (node m i).waits k) (with m.free i) m.free)

-- the same for the nodes below c
unfoldable pub released : Machine → ℕ → ℕ → Machine
released m k zero = m
released m k (suc c) = released_at (released m k c) k c

-- thread k has answered: it has no operation, no node waits for it,
-- and holds node x
abbrev pub left : Machine → ℕ → ℕ → Machine
left m k x = put_thread (released m k m.n) k (idle_thread x)

-- the answer a of an operation that leaves what the thread holds as it is
abbrev pub answering : Answer → Machine → ℕ → Acted
answering a m k = quiet a (left m k (thread m k).held)

-- ---- retiring

-- "every other thread that has an operation at that moment"
unfoldable pub others : Machine → ℕ → ℕ
others m k = word_of (λ u. both (not (eqb u k)) (busy m u)) m.t

-- thread k retires node x: it waits for the others; "Where no other thread has an operation it is free at once"
unfoldable pub retired : Machine → ℕ → ℕ → Machine
retired m k x =
    put_free (put_node m x (with_waits (node m x) (others m k)))
    (pick (eqb (others m k) 0) (with m.free x) m.free)

-- "the node this thread held from its previous successful dequeue, if any, is retired"
abbrev pub retired_held : Machine → ℕ → Machine
retired_held m k = pick (eqb (thread m k).held none) m (retired m k (thread m k).held)

-- The number, place and values that the paper gives each answer. Every promise of every call speaks through `told`.
use Rattle.std.specs.Prelude.{ℕ, Bool, true, false, eqb, Result, Ok, Err}
use Rattle.answer.specs.declared.Told.{Told}
use Rattle.answer.specs.declared.Reply.{Reply}
use Rattle.answer.specs.declared.Reply.TheVariants as reply
use Rattle.answer.specs.declared.Refusal.{Refusal}
use Rattle.answer.specs.declared.Refusal.TheVariants as why

-- an answer: a reply, or a refusal
abbrev pub Answer : Type 0
Answer = Result Reply Refusal

abbrev pub refusal : ℕ → ℕ → Told
refusal n p = record { number = n; place = p; reply = 0; item = 0 }

-- taken, with the operation's answer: 0 none yet, 1 Done, 2 Full, 3 Worn out, 4 an item, 5 Empty
abbrev pub replied : ℕ → ℕ → Told
replied r v = record { number = 0; place = 0; reply = r; item = v }

abbrev pub told_reply : Reply → Told
told_reply reply.Taken = replied 0 0
told_reply reply.Done = replied 1 0
told_reply reply.Full = replied 2 0
told_reply reply.WornOut = replied 3 0
told_reply (reply.Item v) = replied 4 v
told_reply reply.Empty = replied 5 0

abbrev pub told_refusal : Refusal → Told
told_refusal why.Length = refusal 1 0
told_refusal why.Mark = refusal 2 0
told_refusal why.Nodes = refusal 3 0
told_refusal why.Threads = refusal 4 0
told_refusal why.Events = refusal 5 0
told_refusal (why.Linked i) = refusal 6 i
told_refusal (why.Twin i) = refusal 7 i
told_refusal why.NoDummy = refusal 8 0
told_refusal (why.Kind p) = refusal 9 p
told_refusal (why.Number p) = refusal 10 p
told_refusal (why.Busy p) = refusal 11 p
told_refusal (why.Idle p) = refusal 12 p
told_refusal (why.NotZero p) = refusal 13 p
told_refusal (why.Contents l) = refusal 14 l
told_refusal why.Endings = refusal 15 0
told_refusal why.NoEnding = refusal 16 0
told_refusal why.Room = refusal 17 0
told_refusal why.Record = refusal 18 0
told_refusal (why.Clean p) = refusal 19 p
told_refusal (why.Narrow i) = refusal 20 i

abbrev pub told : Answer → Told
told (Ok r) = told_reply r
told (Err e) = told_refusal e

-- one check in a fixed order of checks: where something is wrong, that is the answer, whatever follows
abbrev pub check : Bool → Answer → Answer → Answer
check true wrong rest = wrong
check false wrong rest = rest

-- what a call gives: its value, or a refusal and nothing beside it
abbrev pub given : {A : Type 0} → Answer → A → Result A Refusal
given (Ok r) x = Ok x
given (Err e) x = Err e

-- number 0: taken
abbrev pub accepted : Answer → Bool
accepted a = eqb (told a).number 0

-- the answers by their names
abbrev pub Taken : Answer
Taken = Ok reply.Taken

abbrev pub Done : Answer
Done = Ok reply.Done

abbrev pub Full : Answer
Full = Ok reply.Full

abbrev pub WornOut : Answer
WornOut = Ok reply.WornOut

abbrev pub Item : ℕ → Answer
Item v = Ok (reply.Item v)

abbrev pub Empty : Answer
Empty = Ok reply.Empty

abbrev pub Length : Answer
Length = Err why.Length

abbrev pub Mark : Answer
Mark = Err why.Mark

abbrev pub Nodes : Answer
Nodes = Err why.Nodes

abbrev pub Threads : Answer
Threads = Err why.Threads

abbrev pub Events : Answer
Events = Err why.Events

abbrev pub Linked : ℕ → Answer
Linked p = Err (why.Linked p)

abbrev pub Twin : ℕ → Answer
Twin p = Err (why.Twin p)

abbrev pub NoDummy : Answer
NoDummy = Err why.NoDummy

abbrev pub Kind : ℕ → Answer
Kind p = Err (why.Kind p)

abbrev pub Number : ℕ → Answer
Number p = Err (why.Number p)

abbrev pub Busy : ℕ → Answer
Busy p = Err (why.Busy p)

abbrev pub Idle : ℕ → Answer
Idle p = Err (why.Idle p)

abbrev pub NotZero : ℕ → Answer
NotZero p = Err (why.NotZero p)

abbrev pub Contents : ℕ → Answer
Contents p = Err (why.Contents p)

abbrev pub Endings : Answer
Endings = Err why.Endings

abbrev pub NoEnding : Answer
NoEnding = Err why.NoEnding

abbrev pub Room : Answer
Room = Err why.Room

abbrev pub Record : Answer
Record = Err why.Record

abbrev pub Clean : ℕ → Answer
Clean p = Err (why.Clean p)

abbrev pub Narrow : ℕ → Answer
Narrow p = Err (why.Narrow p)

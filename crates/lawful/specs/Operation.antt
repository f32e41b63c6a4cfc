-- The operations begun after the last start, by begin event, with their answers.
use Rattle.std.specs.Prelude.{ℕ, zero, suc, Bool, true, false, not, List, [], ◌∷◌, ◌++◌, map, get_or, eqb}
use Rattle.lists.specs.Find.{pick, both}
use Rattle.answer.specs.Answers.{told, Answer}
use Rattle.machine.specs.Event.{Deed, unknown, enqueues, dequeues, steps, writes_back, crashes, deed_of}
use Rattle.machine.specs.declared.Event.{Event}

-- what an operation has answered
pub data Reply : Type 0 where
  nothing done full worn_out empty : Reply
  gave : (v : ℕ) → Reply

abbrev pub reply_of : Answer → Reply
reply_of a = get_or (nothing ∷ done ∷ full ∷ worn_out ∷ gave (told a).item ∷ empty ∷ []) (told a).reply nothing

-- it has answered something
abbrev pub says : Reply → Bool
says nothing = false
says done = true
says full = true
says worn_out = true
says empty = true
says (gave v) = true

-- what was asked
pub data Call : Type 0 where
  puts : (v : ℕ) → Call
  takes : Call

-- its thread, what was asked, the number of the event that began it, its answer, and the number of the event that gave it
pub record Operation : Type 0 where
  pub thread : ℕ
  pub call : Call
  pub began : ℕ
  pub reply : Reply
  pub ended : ℕ

abbrev pub begun : ℕ → ℕ → Call → Operation
begun p k c = record { thread = k; call = c; began = p; reply = nothing; ended = 0 }

-- event p answers thread k's operation
abbrev pub answered_by : ℕ → ℕ → Reply → Operation → Operation
answered_by p k r o = elim (both (eqb o.thread k) (not (says o.reply))) [
  | true ↦ record { thread = o.thread; call = o.call; began = o.began; reply = r; ended = p }
  | false ↦ o
]

-- the operations after event p, which gave the answer a
abbrev pub noted : ℕ → Event → Answer → List Operation → Deed → List Operation
noted p e a ops unknown = ops
noted p e a ops enqueues = ops ++ (begun p e.number (puts e.item) ∷ [])
noted p e a ops dequeues = ops ++ (begun p e.number takes ∷ [])
noted p e a ops steps = elim (says (reply_of a)) [ true ↦ map (answered_by p e.number (reply_of a)) ops | false ↦ ops ]
noted p e a ops writes_back = ops
noted p e a ops crashes = []

-- events in turn, the first of them number p, with what each answered
unfoldable pub operations : ℕ → List Event → List Answer → List Operation → List Operation
operations p [] answers ops = ops
operations p (e ∷ l) [] ops = ops
operations p (e ∷ l) (a ∷ answers) ops = operations (suc p) l answers (noted p e a ops (deed_of e.kind))

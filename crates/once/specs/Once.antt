-- Request 103: "each operation answered Done, Empty or with an item has performed exactly one persisting step since it began, and each
-- answered Full or Worn out none". Counted from the steps of the machine's own definition.
use Rattle.std.specs.Prelude.{ℕ, zero, suc, ◌+◌, ◌≡◌, Bool, true, false, not, List, [], ◌∷◌, get_or, eqb}
use Rattle.lists.specs.Find.{pick}
use Rattle.answer.specs.Answers.{told, Answer}
use Rattle.machine.specs.Event.{Deed, unknown, enqueues, dequeues, steps, writes_back, crashes, deed_of, event_at}
use Rattle.machine.specs.Start.{start_of}
use Rattle.machine.specs.declared.Machine.{Machine}
use Rattle.machine.specs.declared.Event.{Event}
use Rattle.machine.specs.declared.Acted.{Acted}
use Rattle.machine.specs.declared.Touch.{Touch}
use Rattle.machine.specs.declared.Touch.TheVariants.{Nothing as nothing, Store as a_store, Persist as a_persist, Flush as a_flush, Fence as a_fence}
use Rattle.schedule.specs.Layout.{schedule_in, events_in}
use Rattle.schedule.specs.declared.Schedule.{Schedule}

-- ---- persisting steps

-- what a step adds to its thread's count, by what it touched: 1 where it persisted a line; #104: "#103 then counts fences"
abbrev pub counts : Touch → ℕ
counts nothing = 0
counts (a_store l) = 0
counts (a_persist l) = 1
counts (a_flush t l) = 0
counts (a_fence t l) = 1

-- what event e, at place p of a run, touches on machine m
abbrev pub touch_of : ℕ → Machine → Event → Touch
touch_of p m e = (event_at p m e).touch

-- the count x of a thread behind an event on it that touched w: a begin begins anew, a step adds. Write-backs are no steps, nor is a crash
abbrev pub count_by : ℕ → Touch → Deed → ℕ
count_by x w unknown = x
count_by x w enqueues = 0
count_by x w dequeues = 0
count_by x w steps = x + counts w
count_by x w writes_back = x
count_by x w crashes = x

-- the counts of all threads, thread k's being c k, behind an event e that touched w: only the thread that it names has another
abbrev pub counts_after : (ℕ → ℕ) → Touch → Event → ℕ → ℕ
counts_after c w e k = pick (eqb k e.number) (count_by (c k) w (deed_of e.kind)) (c k)

-- ---- operations that were answered

-- the number of the event that answered, the thread, the answer, and how many persisting steps it has performed since it began
pub record Answered : Type 0 where
  pub event : ℕ
  pub thread : ℕ
  pub answer : Answer
  pub persists : ℕ

-- an answer of an operation, and not of an event alone
abbrev pub replies : Answer → Bool
replies a = not (eqb (told a).reply 0)

-- event p on thread k gave the answer a
abbrev pub noted : ℕ → ℕ → Answer → ℕ → List Answered → List Answered
noted p k a x l = pick (replies a) (record { event = p; thread = k; answer = a; persists = x } ∷ l) l

-- the operations that events in turn answer, from machine m on, the first event having number p. touches says what each event touches
unfoldable pub answered_by : (ℕ → Machine → Event → Touch) → ℕ → Machine → (ℕ → ℕ) → List Event → List Answered
answered_by touches p m c [] = []
answered_by touches p m c (e ∷ l) =
    let o = event_at p m e in
    let c' = counts_after c (touches p m e) e in
    noted p e.number o.answer (c' e.number) (answered_by touches (suc p) o.machine c' l)

-- all that a schedule answers, crashes among its events or not
unfoldable pub answered : List ℕ → List Answered
answered s = answered_by touch_of 0 (start_of (schedule_in s).image (schedule_in s).t) (λ k. 0) (events_in s)

-- ---- the claim

-- none yet, Done, Full, Worn out, an item, Empty: as `told` numbers them
abbrev pub due : Answer → ℕ
due a = get_or (0 ∷ 1 ∷ 0 ∷ 0 ∷ 1 ∷ 1 ∷ []) (told a).reply 0

abbrev pub Once : Answered → Type 0
Once x = x.persists ≡ due x.answer

abbrev pub Each : {A : Type 0} → (A → Type 0) → List A → Type 0
Each P [] = Unit {0}
Each P (x ∷ l) = P x × Each P l

-- "for every accepted schedule"
abbrev pub OnePersistEach : List ℕ → Type 0
OnePersistEach s = Each Once (answered s)

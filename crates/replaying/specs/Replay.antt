-- A probe file replayed: its refusal, or the first event whose answer differs from the machine's, with both, or that all agree.
use Rattle.std.specs.Prelude.{ℕ, Bool, true, false, not, List, ltb, Option, Some, None}
use Rattle.lists.specs.Find.{pick, least}
use Rattle.answer.specs.Answers.{told, accepted, Answer, Taken}
use Rattle.machine.specs.Event.{event_at}
use Rattle.machine.specs.declared.Machine.{Machine}
use Rattle.schedule.specs.Layout.{schedule_in, count_in}
use Rattle.schedule.specs.Run.{bench_at, opened}
use Rattle.replaying.specs.Probe.{probe_answer, probed_in, probed_event, asked, odd}
use Rattle.replaying.specs.declared.Probed.{Probed}
use Rattle.replaying.specs.declared.Difference.{Difference}

-- ---- event i, where those before it were taken

-- the machine before it
abbrev pub machine_at : List ℕ → ℕ → Machine
machine_at s i = (bench_at (opened (schedule_in s)) (probed_event s) i).machine

-- what the machine answers to it, and what it is answered as the file has it
abbrev pub machine_reply : List ℕ → ℕ → Answer
machine_reply s i = (event_at i (machine_at s i) (probed_event s i)).answer

abbrev pub file_reply : List ℕ → ℕ → Answer
file_reply s i = asked i (probed_in s i) (machine_reply s i)

unfoldable pub refused_at : List ℕ → ℕ → Bool
refused_at s i = not (accepted (file_reply s i))

unfoldable pub odd_at : List ℕ → ℕ → Bool
odd_at s i = odd (probed_in s i) (machine_reply s i)

-- ---- the whole file

-- "A refused event refuses the file": the first such event; the event count where there is none
unfoldable pub first_refused : List ℕ → ℕ
first_refused s = least (refused_at s) (count_in s) 0

unfoldable pub events_answer : List ℕ → Answer
events_answer s = pick (ltb (first_refused s) (count_in s)) (file_reply s (first_refused s)) Taken

-- "Refusals: 01's order through the events"
unfoldable pub replay_answer : List ℕ → Answer
replay_answer s = elim (accepted (probe_answer s)) [ true ↦ events_answer s | false ↦ probe_answer s ]

-- "the first event whose answer differs from the machine's"; the event count where there is none
unfoldable pub first_odd : List ℕ → ℕ
first_odd s = least (odd_at s) (count_in s) 0

-- ---- what the call hands back

-- the refusal; or the first event whose answer differs, with the observed answer and the machine's, each with its item; zeros where all agree and
-- beside a refusal
pub record Replayed : Type 0 where
  pub answer : Answer
  pub differs : Bool
  pub event : ℕ
  pub seen : ℕ
  pub seen_item : ℕ
  pub given : ℕ
  pub given_item : ℕ

-- nothing differs, or the file is refused
abbrev pub nothing_odd : Answer → Replayed
nothing_odd a = record { answer = a; differs = false; event = 0; seen = 0; seen_item = 0; given = 0; given_item = 0 }

-- event i with "both": the observed answer and the machine's
abbrev pub odd_by : ℕ → Probed → Answer → Replayed
odd_by i x a = record { answer = Taken; differs = true; event = i; seen = x.seen; seen_item = x.item; given = (told a).reply; given_item = (told a).item }

unfoldable pub odd_in : List ℕ → ℕ → Replayed
odd_in s i = pick (ltb i (count_in s)) (odd_by i (probed_in s i) (machine_reply s i)) (nothing_odd Taken)

-- "give the first event whose answer differs from the machine's, with both, or say that all agree"
unfoldable pub replay_of : List ℕ → Replayed
replay_of s = elim (accepted (replay_answer s)) [ true ↦ odd_in s (first_odd s) | false ↦ nothing_odd (replay_answer s) ]

-- what is known after an event: a difference found before it stays
unfoldable pub noted : Replayed → ℕ → Probed → Answer → Replayed
noted r i x a = pick r.differs r (pick (odd x a) (odd_by i x a) r)

-- ---- as the code has it: the first event that differs, or none

abbrev pub difference_of : Replayed → Difference
difference_of r = record { event = r.event; seen = r.seen; seen_item = r.seen_item; given = r.given; given_item = r.given_item }

abbrev pub difference_in : Replayed → Option Difference
difference_in r = pick r.differs (Some (difference_of r)) None

-- after one more event
unfoldable pub noted_difference : Option Difference → ℕ → Probed → Answer → Option Difference
noted_difference (Some d) i x a = Some d
noted_difference None i x a = pick (odd x a) (Some (difference_of (odd_by i x a))) None

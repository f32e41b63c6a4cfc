-- "A probe file has mark "UQR", version 1, then T, event count and image as in a schedule": its layout, and what an event of it is answered.
use Rattle.std.specs.Prelude.{ℕ, ◌+◌, Bool, true, false, not, List, eqb, ltb}
use Rattle.lists.specs.Find.{pick, both}
use Rattle.answer.specs.Answers.{told, check, Answer, Kind, NotZero}
use Rattle.image.specs.Bytes.{at1, at4}
use Rattle.machine.specs.declared.Event.{Event}
use Rattle.schedule.specs.Layout.{schedule_shape, place_in, event_from, file_answer}
use Rattle.replaying.specs.declared.Probed.{Probed}

-- 1, 2, 4, 5, 1, 2, 3, 4, 1, 6, 7, 8, as a schedule's, with twelve bytes an event
unfoldable pub probe_answer : List ℕ → Answer
probe_answer s = file_answer 82 12 s

-- "each event is its six bytes, the observed answer .., the item (4, zero unless answer 4) and a zero byte"
abbrev pub probed_from : List ℕ → ℕ → Probed
probed_from s at = record { event = event_from s at; seen = at1 s (at + 6); item = at4 s (at + 7); last = at1 s (at + 11) }

abbrev pub probed_in : List ℕ → ℕ → Probed
probed_in s i = probed_from s (place_in 12 (schedule_shape s) i)

abbrev pub probed_event : List ℕ → ℕ → Event
probed_event s i = (probed_in s i).event

-- ---- refusals of an event: "with an answer above 5 as 9 and a wrong zero as 13"

-- the observed item is zero unless the observed answer is 4; the last byte is zero
abbrev pub wrong_zero : Probed → Bool
wrong_zero x = not (both (eqb x.last 0) (pick (eqb x.seen 4) true (eqb x.item 0)))

-- 13 stands after 9 and 10 and before all else: a is the event's own answer
abbrev pub zero_asked : ℕ → Answer → Answer
zero_asked p a = pick (eqb (told a).number 9) a (pick (eqb (told a).number 10) a (NotZero p))

-- 9, 10, 13, then the others, of the event at place p whose own answer is a
unfoldable pub asked : ℕ → Probed → Answer → Answer
asked p x a = check (ltb 5 x.seen) (Kind p) (pick (wrong_zero x) (zero_asked p a) a)

-- ---- the observed answer is not the machine's

unfoldable pub odd : Probed → Answer → Bool
odd x a = not (both (eqb (told a).reply x.seen) (eqb (told a).item x.item))

-- What each call of the library returns, and what it leaves in the lent bytes. s is what the call reads, b what it may write.
use Rattle.std.specs.Prelude.{ℕ, not, List, [], ◌∷◌, length, ltb}
use Rattle.lists.specs.Find.{pick, both}
use Rattle.lists.specs.Tab.{over}
use Rattle.answer.specs.Answers.{told, check, accepted, Answer, Taken, Threads, Room}
use Rattle.image.specs.Layout.{image_in}
use Rattle.image.specs.Refusals.{threads_fit, image_answer, alone_answer}
use Rattle.machine.specs.Event.{event_on}
use Rattle.machine.specs.Place.{count_places}
use Rattle.machine.specs.Saved.{save_answer, saved}
use Rattle.machine.specs.Start.{start_of}
use Rattle.machine.specs.declared.Event.{Event}
use Rattle.machine.specs.declared.Places.{Places}
use Rattle.schedule.specs.Layout.{schedule_answer}
use Rattle.page.specs.Refusals.{and_then, page_answer, ending_answer}
use Rattle.record.specs.Layout.{read_record, record_in, record_answer, record_written}
use Rattle.runs.specs.Paged.{count_of}
use Rattle.calls.specs.Packed.{packed, reply_of}

abbrev pub image_checked : List ℕ → ℕ
image_checked s = packed (told (alone_answer s)) 0

abbrev pub schedule_checked : List ℕ → ℕ
schedule_checked s = packed (told (schedule_answer s)) 0

abbrev pub endings_counted : List ℕ → ℕ
endings_counted s = packed (told (page_answer s)) (count_of s)

-- the bytes are those of endingWritten
abbrev pub ending_given : List ℕ → ℕ → ℕ → ℕ
ending_given s k room = packed (told (ending_answer s k room)) 0

-- ---- calls on a record's bytes: 1 where they are not 2,267, 2 where their mark or version is another

-- T first, then the image's own for T threads, as a schedule has them; then 17
unfoldable pub start_answered : List ℕ → ℕ → ℕ → Answer
start_answered s t room = check (not (threads_fit t)) Threads (and_then (image_answer t 0 s) (record_answer room))

unfoldable pub start_written : List ℕ → ℕ → List ℕ → List ℕ
start_written s t b = pick (both (threads_fit t) (accepted (image_answer t 0 s))) (record_written (start_of (image_in s) t) b) b

abbrev pub started : List ℕ → ℕ → ℕ → ℕ
started s t room = packed (told (start_answered s t room)) 0

abbrev pub event_given : ℕ → ℕ → ℕ → Event
event_given kind number item = record { kind = kind; number = number; item = item }

-- one event on the record that b is; a refused one changes nothing
unfoldable pub event_answered : List ℕ → Event → Answer
event_answered b e = and_then (read_record b).answer (event_on (record_in b) e).answer

unfoldable pub event_written : List ℕ → Event → List ℕ
event_written b e = pick (accepted (event_answered b e)) (record_written (event_on (record_in b) e).machine b) b

abbrev pub happened : List ℕ → Event → ℕ
happened b e = packed (told (event_answered b e)) (reply_of (told (event_answered b e)))

-- the persisted image of the record that s is
unfoldable pub save_answered : List ℕ → ℕ → Answer
save_answered s room = and_then (read_record s).answer (save_answer (record_in s) room)

unfoldable pub save_written : List ℕ → List ℕ → List ℕ
save_written s b = pick (accepted (read_record s).answer) (saved (record_in s) b) b

abbrev pub saved_bytes : List ℕ → ℕ → ℕ
saved_bytes s room = packed (told (save_answered s room)) 0

-- how many nodes of the record that s is are in each of the six places: a byte each; 17 last
abbrev pub place_bytes : Places → List ℕ
place_bytes p = p.queue ∷ p.free ∷ p.waiting ∷ p.held ∷ p.enqueue ∷ p.dequeue ∷ []

unfoldable pub places_answered : List ℕ → ℕ → Answer
places_answered s room = and_then (read_record s).answer (and_then (count_places (record_in s)).answer (check (ltb room 6) Room Taken))

unfoldable pub places_written : List ℕ → List ℕ → List ℕ
places_written s b = pick (accepted (places_answered s (length b))) (over b 0 (place_bytes (count_places (record_in s)).places)) b

abbrev pub places_counted : List ℕ → ℕ → ℕ
places_counted s room = packed (told (places_answered s room)) 0

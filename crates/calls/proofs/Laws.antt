-- What the calls' definitions come to, by the answers that the code has looked at.
use Prim.Native.Nat.{ℕ, suc, ◌+◌, ◌<◌}
use mathlib.Core.Path.{◌≡◌, refl, sym, ap, ◌∙◌}
use mathlib.Core.Bool.{Bool, true, false, not}
use mathlib.Core.List.{List, [], ◌∷◌}
use native.Mathlib.Omega.{arith}
use lib.ListN.{length, get_or, set, take}
use lib.Seq.{length-take-le, take-suc, take-append_seam}
use lib.Dec.{ltb}
use Rattle.lists.specs.Tab.{over}
use Rattle.lists.proofs.BoolLaws as bools
use Rattle.lists.proofs.TabLaws.{over_append}
use Rattle.answer.specs.Answers.{told, check, accepted, Answer, Taken, Threads, Room}
use Rattle.image.specs.Layout.{shape_in, image_in}
use Rattle.image.proofs.ShapeLaws.{shape_then}
use Rattle.codec.specs.Parts.{read_part}
use Rattle.image.specs.Refusals.{threads_fit, image_answer, whole}
use Rattle.machine.specs.Event.{event_on}
use Rattle.machine.specs.Place.{count_places}
use Rattle.machine.specs.Saved.{save_answer, saved}
use Rattle.machine.specs.Start.{start_of, start_answer, start_from}
use Rattle.machine.specs.declared.Event.{Event}
use Rattle.page.specs.Refusals.{and_then}
use Rattle.record.specs.Layout.{read_record, record_in, record_answer, record_written}
use Rattle.image.proofs.ByteLaws as num
use Rattle.codec.proofs.Accepted as codec
use Rattle.codec.proofs.ReadWrite as there
use Rattle.judging.specs.History.{count_in, history_answer}
use Rattle.judging.specs.Place.{padded}
use Rattle.judging.specs.Judged.{judged_in}
use Rattle.calls.specs.Packed.{packed, reply_of}
use Rattle.calls.specs.Judging.{judge_answered, judge_written}
use Rattle.calls.specs.Calls.{start_answered, start_written, event_answered, event_written, save_answered, save_written, places_answered, places_written, place_bytes}

-- ---- one after the other

pub and_refused : (a rest : Answer) → accepted a ≡ false → and_then a rest ≡ a
and_refused a rest h = rw (h, and_then)

pub and_taken : (a rest : Answer) → accepted a ≡ true → and_then a rest ≡ rest
and_taken a rest h = rw (h, and_then)

pub refused_of : (b : Bool) → not b ≡ true → b ≡ false
refused_of false e = refl
refused_of true e = bools.false_true e

pub taken_of : (b : Bool) → not b ≡ false → b ≡ true
taken_of true e = refl
taken_of false e = bools.false_true (sym e)

-- a refusal is packed with its place, whatever the value
packed_refused : (a : Answer) (v : ℕ) → accepted a ≡ false → packed (told a) 0 ≡ packed (told a) v
unfolding packed
packed_refused a v h = rw h

-- what a call returns for an answer that is the one its definition names
pub packed_is : (a w : Answer) (v r : ℕ) → r ≡ packed (told a) v → a ≡ w → r ≡ packed (told w) v
packed_is a w v r p e = p ∙ ap (λ a. packed (told a) v) e

pub refused_is : (a w : Answer) (r : ℕ) → r ≡ packed (told a) 0 → a ≡ w → accepted a ≡ false → r ≡ packed (told w) (reply_of (told w))
refused_is a w r p e h = p ∙ (packed_refused a (reply_of (told a)) h ∙ ap (λ a. packed (told a) (reply_of (told a))) e)

-- ---- a record read from bytes

pub record_read : (s : List ℕ) → accepted (read_record s).answer ≡ true → (read_record s).machine ≡ record_in s
unfolding read_record
record_read s h = rw h

-- ---- a start

module _ (s : List ℕ) (t : ℕ) where
  pub start_threads : (room : ℕ) → threads_fit t ≡ false → start_answered s t room ≡ Threads
  unfolding start_answered
  start_threads room h = rw h

  pub start_threads_stay : (b : List ℕ) → threads_fit t ≡ false → start_written s t b ≡ b
  unfolding start_written
  start_threads_stay b h = rw h

  module _ (fit : threads_fit t ≡ true) where
    pub start_image : (room : ℕ) → accepted (image_answer t 0 s) ≡ false → start_answered s t room ≡ image_answer t 0 s
    unfolding start_answered
    start_image room h = rw fit (and_refused (image_answer t 0 s) (record_answer room) h)

    pub start_image_stays : (b : List ℕ) → accepted (image_answer t 0 s) ≡ false → start_written s t b ≡ b
    unfolding start_written
    start_image_stays b h = rw (fit, h)

    pub start_room : (room : ℕ) → accepted (image_answer t 0 s) ≡ true → start_answered s t room ≡ record_answer room
    unfolding start_answered
    start_room room h = rw fit (and_taken (image_answer t 0 s) (record_answer room) h)

    pub start_written_lem : (b : List ℕ) → accepted (image_answer t 0 s) ≡ true → start_written s t b ≡ record_written (start_of (image_in s) t) b
    unfolding start_written
    start_written_lem b h = rw (fit, h)

    starts : num.Bytes s → accepted (image_answer t 0 s) ≡ true → accepted (start_answer (image_in s) t) ≡ true
    unfolding start_answer image_in
    starts y h =
        let p = codec.part_taken t 0 s h in
        rw fit (ap accepted (shape_then t (shape_in s) (whole (image_in s) Taken) p.shape ∙ there.read_whole s y p.clear))

    pub start_taken : num.Bytes s → accepted (image_answer t 0 s) ≡ true → accepted (start_from (image_in s) t).answer ≡ true
    unfolding start_from
    start_taken y h = let a = starts y h in rw (a, start_from) a

    pub start_machine : num.Bytes s → accepted (image_answer t 0 s) ≡ true → (start_from (image_in s) t).machine ≡ start_of (image_in s) t
    unfolding start_from
    start_machine y h = rw (starts y h, start_from)

pub image_answer_lem : (t : ℕ) (s : List ℕ) → (read_part t 0 s).answer ≡ image_answer t 0 s
unfolding read_part
image_answer_lem t s = refl

pub image_read : (t : ℕ) (s : List ℕ) → accepted (image_answer t 0 s) ≡ true → (read_part t 0 s).image ≡ image_in s
unfolding read_part
image_read t s h = rw h

-- ---- an event

module _ (b : List ℕ) (e : Event) where
  pub event_unread : accepted (read_record b).answer ≡ false → event_answered b e ≡ (read_record b).answer
  unfolding event_answered
  event_unread h = and_refused (read_record b).answer (event_on (record_in b) e).answer h

  pub event_answer_lem : accepted (read_record b).answer ≡ true → event_answered b e ≡ (event_on (record_in b) e).answer
  unfolding event_answered
  event_answer_lem h = and_taken (read_record b).answer (event_on (record_in b) e).answer h

  pub event_stays : accepted (event_answered b e) ≡ false → event_written b e ≡ b
  unfolding event_written
  event_stays h = rw h

  pub event_goes : accepted (event_answered b e) ≡ true → event_written b e ≡ record_written (event_on (record_in b) e).machine b
  unfolding event_written
  event_goes h = rw h

-- ---- the persisted image

module _ (s : List ℕ) where
  pub save_unread : (room : ℕ) → accepted (read_record s).answer ≡ false → save_answered s room ≡ (read_record s).answer
  unfolding save_answered
  save_unread room h = and_refused (read_record s).answer (save_answer (record_in s) room) h

  pub save_answer_lem : (room : ℕ) → accepted (read_record s).answer ≡ true → save_answered s room ≡ save_answer (record_in s) room
  unfolding save_answered
  save_answer_lem room h = and_taken (read_record s).answer (save_answer (record_in s) room) h

  pub save_stays : (b : List ℕ) → accepted (read_record s).answer ≡ false → save_written s b ≡ b
  unfolding save_written
  save_stays b h = rw h

  pub save_goes : (b : List ℕ) → accepted (read_record s).answer ≡ true → save_written s b ≡ saved (record_in s) b
  unfolding save_written
  save_goes b h = rw h

-- ---- the six places

module _ (s : List ℕ) where
  abbrev rest : ℕ → Answer
  rest room = check (ltb room 6) Room Taken

  abbrev counted : ℕ → Answer
  counted room = and_then (count_places (record_in s)).answer (rest room)

  pub places_unread : (room : ℕ) → accepted (read_record s).answer ≡ false → places_answered s room ≡ (read_record s).answer
  unfolding places_answered
  places_unread room h = and_refused (read_record s).answer (counted room) h

  pub places_refused : (room : ℕ) → accepted (read_record s).answer ≡ true → accepted (count_places (record_in s)).answer ≡ false → places_answered s room ≡ (count_places (record_in s)).answer
  unfolding places_answered
  places_refused room h g =
      and_taken (read_record s).answer (counted room) h ∙ and_refused (count_places (record_in s)).answer (rest room) g

  places_room : (room : ℕ) → accepted (read_record s).answer ≡ true → accepted (count_places (record_in s)).answer ≡ true → places_answered s room ≡ rest room
  unfolding places_answered
  places_room room h g =
      and_taken (read_record s).answer (counted room) h ∙ and_taken (count_places (record_in s)).answer (rest room) g

  pub places_short : (room : ℕ) → accepted (read_record s).answer ≡ true → accepted (count_places (record_in s)).answer ≡ true → ltb room 6 ≡ true → places_answered s room ≡ Room
  places_short room h g l = places_room room h g ∙ rw l

  pub places_taken : (room : ℕ) → accepted (read_record s).answer ≡ true → accepted (count_places (record_in s)).answer ≡ true → ltb room 6 ≡ false → places_answered s room ≡ Taken
  places_taken room h g l = places_room room h g ∙ rw l

  pub places_stay : (b : List ℕ) → accepted (places_answered s (length b)) ≡ false → places_written s b ≡ b
  unfolding places_written
  places_stay b h = rw h

  pub places_go : (b : List ℕ) → accepted (places_answered s (length b)) ≡ true → places_written s b ≡ over b 0 (place_bytes (count_places (record_in s)).places)
  unfolding places_written
  places_go b h = rw h

-- ---- a history

module _ (s : List ℕ) where
  abbrev room_left : ℕ → Answer
  room_left room = check (ltb room (count_in s)) Room Taken

  pub judge_refused : (room : ℕ) → accepted (history_answer s) ≡ false → judge_answered s room ≡ history_answer s
  unfolding judge_answered
  judge_refused room h = and_refused (history_answer s) (room_left room) h

  pub judge_short : (room : ℕ) → accepted (history_answer s) ≡ true → ltb room (count_in s) ≡ true → judge_answered s room ≡ Room
  unfolding judge_answered
  judge_short room h l = and_taken (history_answer s) (room_left room) h ∙ rw l

  pub judge_taken : (room : ℕ) → accepted (history_answer s) ≡ true → ltb room (count_in s) ≡ false → judge_answered s room ≡ Taken
  unfolding judge_answered
  judge_taken room h l = and_taken (history_answer s) (room_left room) h ∙ rw l

  pub judge_stays : (b : List ℕ) → accepted (judge_answered s (length b)) ≡ false → judge_written s b ≡ b
  unfolding judge_written
  judge_stays b h = rw h

  pub judge_goes : (b : List ℕ) → accepted (judge_answered s (length b)) ≡ true → judge_written s b ≡ over b 0 (judged_in s).order
  unfolding judge_written
  judge_goes b h = rw h

-- a refusal's number, whatever value the definition names
pub refused_with : (a w : Answer) (v r : ℕ) → r ≡ packed (told a) 0 → a ≡ w → accepted a ≡ false → r ≡ packed (told w) v
refused_with a w v r p e h = p ∙ (packed_refused a v h ∙ ap (λ a. packed (told a) v) e)

-- the numbers of an order, out of its sixteen places
pub order_front : (o l : List ℕ) (c : ℕ) → c ≡ length o → l ≡ padded o → take c l ≡ o
unfolding padded
order_front o l c e f = rw (e, f) (take-append_seam o _)

-- one number more
pub order_next : (b order : List ℕ) (i : ℕ) → i < length order → i < length b
    → set (over b 0 (take i order)) i (get_or order i 0) ≡ over b 0 (take (i + 1) order)
unfolding over
order_next b order i h g =
    let n : i ≡ 0 + length (take i order) = omega (arith, length-take-le i order (omega arith)) in
    let w : i + 1 ≡ suc i = omega arith in
    rw (w, take-suc order i 0 h)
    (ap (λ (k : ℕ). over (over b 0 (take i order)) k (get_or order i 0 ∷ [])) n ∙ over_append b 0 (take i order) (get_or order i 0 ∷ []))

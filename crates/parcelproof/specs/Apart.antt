-- "Each enqueue begin stands in one group": at an ending of one queue no two of 02's conditions hold of one enqueue.
use Rattle.std.specs.Prelude.{ℕ, ◌<◌, ◌≡◌, true, List, [], ◌∷◌, ◌⊎◌}
use Rattle.answer.specs.Answers.{accepted}
use Rattle.image.specs.declared.Image.{Image}
use Rattle.page.specs.Refusals.{page_answer, ending_count, ending_in}
use Rattle.lawful.specs.Demand3.{Bytes}
use Rattle.parcels.specs.Parcel.{parcels_in}
use Rattle.parcels.specs.Despatch.{handed_out, still_queued, turned_away, taken_alone, group_of, number_of}
use Rattle.parcels.specs.declared.Parcel.{Parcel}
use Rattle.parcels.specs.declared.Group.TheVariants as group

-- p stands in the list
abbrev pub In : Parcel → List Parcel → Type 0
In p [] = ⊥
In p (r ∷ l) = (p ≡ r) ⊎ In p l

-- no two of "handed out", "still queued", "turned away", "taken without an answer"; "never in (the rest)" is that none of them holds
pub record Apart (g : Image) (p : Parcel) : Type 0 where
  pub handed_queued : handed_out p ≡ true → still_queued g p ≡ true → ⊥
  pub handed_turned : handed_out p ≡ true → turned_away p ≡ true → ⊥
  pub handed_alone : handed_out p ≡ true → taken_alone g p ≡ true → ⊥
  pub queued_turned : still_queued g p ≡ true → turned_away p ≡ true → ⊥
  pub queued_alone : still_queued g p ≡ true → taken_alone g p ≡ true → ⊥
  pub turned_alone : turned_away p ≡ true → taken_alone g p ≡ true → ⊥

-- of every enqueue on the list, at every ending of a page that is not refused
abbrev pub OneGroup : Type 0
OneGroup = (s : List ℕ) → Bytes s → accepted (page_answer s) ≡ true → (k : ℕ) → k < ending_count s → (p : Parcel) → In p (parcels_in s) → Apart (ending_in s k) p

-- so the group printed is that of the condition that holds, whichever it is: the order in which 02 names them decides nothing
pub record Told (g : Image) (p : Parcel) : Type 0 where
  pub handed : handed_out p ≡ true → group_of g p ≡ group.HandedOut
  pub queued : still_queued g p ≡ true → group_of g p ≡ group.Queued
  pub turned : turned_away p ≡ true → group_of g p ≡ group.TurnedAway
  pub alone : taken_alone g p ≡ true → group_of g p ≡ group.TakenAlone
  -- and the number in its entry is the condition's, 1 to 4
  pub handed_number : handed_out p ≡ true → number_of (group_of g p) ≡ 1
  pub queued_number : still_queued g p ≡ true → number_of (group_of g p) ≡ 2
  pub turned_number : turned_away p ≡ true → number_of (group_of g p) ≡ 3
  pub alone_number : taken_alone g p ≡ true → number_of (group_of g p) ≡ 4

abbrev pub GroupTold : Type 0
GroupTold = (s : List ℕ) → Bytes s → accepted (page_answer s) ≡ true → (k : ℕ) → k < ending_count s → (p : Parcel) → In p (parcels_in s) → Told (ending_in s k) p

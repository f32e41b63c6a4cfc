-- The list at one ending: in which group each enqueue stands, its bytes, and the refusals.
use Rattle.std.specs.Prelude.{ℕ, zero, suc, ◌*◌, Bool, true, false, not, List, [], ◌∷◌, ◌++◌, length, get_or, eqb, ltb, leb}
use Rattle.lists.specs.Find.{pick, both}
use Rattle.lists.specs.Tab.{over}
use Rattle.answer.specs.Answers.{check, accepted, Answer, Taken, NoEnding, Room}
use Rattle.image.specs.Bytes.{le}
use Rattle.image.specs.Layout.{content_at}
use Rattle.image.specs.Recovered.{head_of, recovered_at}
use Rattle.image.specs.declared.Image.{Image}
use Rattle.page.specs.Refusals.{page_answer, ending_count, ending_in}
use Rattle.parcels.specs.Parcel.{no_parcel, is_linked, turns_away, parcels_in}
use Rattle.parcels.specs.declared.Group.{Group}
use Rattle.parcels.specs.declared.Group.TheVariants.{HandedOut, Queued, TurnedAway, TakenAlone, NeverIn}
use Rattle.parcels.specs.declared.Parcel.{Parcel}

-- ---- 02's five conditions, at the ending g

-- 1: "handed out (its dequeue answered with it)"
abbrev pub handed_out : Parcel → Bool
handed_out p = p.handed

-- 2: "still queued (its link step was done and its node is recovered with the index it was linked with)"
abbrev pub still_queued : Image → Parcel → Bool
still_queued g p = both (is_linked p) (both (recovered_at g p.node) (eqb (content_at g.nodes p.node).index p.index))

-- 3: "turned away (Full or Worn out)"
abbrev pub turned_away : Parcel → Bool
turned_away p = turns_away p.said

-- 4: "taken without an answer (its link step done, its index at most the ending's head index, no dequeue answered with it)"
abbrev pub taken_alone : Image → Parcel → Bool
taken_alone g p = both (is_linked p) (both (leb p.index (head_of g)) (not p.handed))

-- "Each enqueue begin stands in one group": the first whose condition holds, in 02's order; else "and never in (the rest)"
unfoldable pub group_of : Image → Parcel → Group
group_of g p = pick (handed_out p) HandedOut (pick (still_queued g p) Queued (pick (turned_away p) TurnedAway (pick (taken_alone g p) TakenAlone NeverIn)))

-- a group's number, in 02's order
abbrev pub number_of : Group → ℕ
number_of HandedOut = 1
number_of Queued = 2
number_of TurnedAway = 3
number_of TakenAlone = 4
number_of NeverIn = 5

-- ---- as bytes

-- an entry: begin event (2), thread, group, item (4)
abbrev pub entry_bytes : Parcel → Group → List ℕ
entry_bytes p c = le 2 p.began ++ (p.thread ∷ number_of c ∷ le 4 p.item)

-- those of the first j enqueues
unfoldable pub entries_to : Image → List Parcel → ℕ → List ℕ
entries_to g l zero = []
entries_to g l (suc j) = entries_to g l j ++ entry_bytes (get_or l j no_parcel) (group_of g (get_or l j no_parcel))

unfoldable pub list_bytes : List ℕ → ℕ → List ℕ
list_bytes s k = entries_to (ending_in s k) (parcels_in s) (length (parcels_in s))

-- ---- "Refusals: those of the page, in its order": then 16, 17

unfoldable pub despatch_answer : List ℕ → ℕ → ℕ → Answer
despatch_answer s k room = elim (accepted (page_answer s)) [
  | true ↦ check (leb (ending_count s) k) NoEnding (check (ltb room (length (parcels_in s) * 8)) Room Taken)
  | false ↦ page_answer s
]

-- how many entries; 0 beside a refusal
unfoldable pub despatch_count : List ℕ → ℕ → ℕ → ℕ
despatch_count s k room = pick (accepted (despatch_answer s k room)) (length (parcels_in s)) 0

-- the entries in the first bytes of the lent buffer; all of it as it was beside a refusal
unfoldable pub despatch_written : List ℕ → ℕ → List ℕ → List ℕ
despatch_written s k b = pick (accepted (despatch_answer s k (length b))) (over b 0 (list_bytes s k)) b

-- The same as the code finds it: the ending is a machine that was started from its image.
use Rattle.std.specs.Prelude.{Result, ℕ, zero, suc, ◌-◌, ◌*◌, ◌≡◌, Bool, not, List, [], ◌++◌, length, get_or, replicate, eqb, ltb, leb}
use Rattle.lists.specs.Find.{pick, both}
use Rattle.lists.specs.Tab.{over}
use Rattle.answer.specs.Answers.{check, accepted, given, Answer, Taken, Room}
use Rattle.answer.specs.declared.Refusal.{Refusal}
use Rattle.image.specs.Refusals.{Read}
use Rattle.machine.specs.Start.{start_from}
use Rattle.machine.specs.declared.Machine.{Machine}
use Rattle.page.specs.Refusals.{and_then}
use Rattle.schedule.specs.Layout.{count_in}
use Rattle.parcels.specs.Parcel.{node_at, no_parcel, is_linked, parcels_in}
use Rattle.parcels.specs.Despatch.{handed_out, turned_away, entry_bytes}
use Rattle.parcels.specs.declared.Parcel.{Parcel}
use Rattle.parcels.specs.declared.Group.{Group}
use Rattle.parcels.specs.declared.Group.TheVariants.{HandedOut, Queued, TurnedAway, TakenAlone, NeverIn}

-- how many bytes an ending takes: as many as the schedule's image
abbrev pub end_size : List ℕ → ℕ
end_size s = length s - 8 - count_in s * 6

-- what an image that was read starts, for t threads; the image's own refusal, or the start's
abbrev pub started_from : ℕ → Read → Result Machine Refusal
started_from t r = given (and_then r.answer (start_from r.image t).answer) (start_from r.image t).machine

unfoldable pub no_bytes : List ℕ
no_bytes = replicate 1024 0

-- the dummy's cached index is the head index
abbrev pub head_in : Machine → ℕ
head_in m = (node_at m m.head).index

abbrev pub queued_in : Machine → Parcel → Bool
queued_in m p =
    let v = node_at m p.node in
    both (is_linked p) (both (both (eqb v.linked 1) (ltb (head_in m) v.index)) (eqb v.index p.index))

abbrev pub alone_in : Machine → Parcel → Bool
alone_in m p = both (is_linked p) (both (leb p.index (head_in m)) (not p.handed))

unfoldable pub group_in : Machine → Parcel → Group
group_in m p = pick (handed_out p) HandedOut (pick (queued_in m p) Queued (pick (turned_away p) TurnedAway (pick (alone_in m p) TakenAlone NeverIn)))

unfoldable pub packed_to : Machine → List Parcel → ℕ → List ℕ
packed_to m l zero = []
packed_to m l (suc j) = packed_to m l j ++ entry_bytes (get_or l j no_parcel) (group_in m (get_or l j no_parcel))

-- places for 4,096 enqueues
unfoldable pub no_parcels : List Parcel
no_parcels = replicate 4096 no_parcel

-- 17, where the buffer has no room for them
unfoldable pub pack_answer : List ℕ → ℕ → Answer
pack_answer s room = check (ltb room (length (parcels_in s) * 8)) Room Taken

-- what packing them for a started ending gives, how many they are, and what it leaves
pub record Packed (s : List ℕ) (m : Machine) (b : List ℕ) (r : Result ℕ Refusal) (z : List ℕ) : Type 0 where
  pub gives : r ≡ given (pack_answer s (length b)) (length (parcels_in s))
  pub bytes : z ≡ pick (accepted (pack_answer s (length b))) (over b 0 (packed_to m (parcels_in s) (length (parcels_in s)))) b

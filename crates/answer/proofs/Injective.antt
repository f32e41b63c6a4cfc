-- Two answers with the same number, place and values are the same answer.
use Prim.Native.Nat.{ℕ}
use mathlib.Core.Path.{◌≡◌, refl, sym, ap, ◌∙◌}
use mathlib.Core.Bool.{true, false}
use mathlib.Core.List.{List, [], ◌∷◌}
use lib.ListN.{get_or}
use lib.Dec.{eqb}
use Rattle.std.specs.Prelude.{Ok, Err}
use Rattle.answer.specs.declared.Told.{Told}
use Rattle.answer.specs.declared.Reply.TheVariants as reply
use Rattle.answer.specs.declared.Refusal.TheVariants as why
use Rattle.answer.specs.Answers.{told, Answer, Taken, Done, Full, WornOut, Item, Empty, Length, Mark, Nodes, Threads, Events, Linked, Twin, NoDummy, Kind, Number, Busy, Idle, NotZero, Contents, Endings, NoEnding, Room, Record, Clean, Narrow}

abbrev replies : ℕ → List Answer
replies v = Taken ∷ Done ∷ Full ∷ WornOut ∷ Item v ∷ Empty ∷ []

abbrev refusals : ℕ → List Answer
refusals p =
    Taken ∷ Length ∷ Mark ∷ Nodes ∷ Threads ∷ Events ∷ Linked p ∷ Twin p ∷ NoDummy ∷ Kind p ∷ Number p ∷ Busy p ∷ Idle p ∷ NotZero p ∷ Contents p
    ∷ Endings ∷ NoEnding ∷ Room ∷ Record ∷ Clean p ∷ Narrow p ∷ []

-- the answer of a number, a place and values
back : Told → Answer
back t = elim (eqb t.number 0) [ true ↦ get_or (replies t.item) t.reply Taken | false ↦ get_or (refusals t.place) t.number Taken ]

back_told : (a : Answer) → back (told a) ≡ a
unfolding back
back_told (Ok reply.Taken) = refl
back_told (Ok reply.Done) = refl
back_told (Ok reply.Full) = refl
back_told (Ok reply.WornOut) = refl
back_told (Ok (reply.Item v)) = refl
back_told (Ok reply.Empty) = refl
back_told (Err why.Length) = refl
back_told (Err why.Mark) = refl
back_told (Err why.Nodes) = refl
back_told (Err why.Threads) = refl
back_told (Err why.Events) = refl
back_told (Err (why.Linked p)) = refl
back_told (Err (why.Twin p)) = refl
back_told (Err why.NoDummy) = refl
back_told (Err (why.Kind p)) = refl
back_told (Err (why.Number p)) = refl
back_told (Err (why.Busy p)) = refl
back_told (Err (why.Idle p)) = refl
back_told (Err (why.NotZero p)) = refl
back_told (Err (why.Contents p)) = refl
back_told (Err why.Endings) = refl
back_told (Err why.NoEnding) = refl
back_told (Err why.Room) = refl
back_told (Err why.Record) = refl
back_told (Err (why.Clean p)) = refl
back_told (Err (why.Narrow p)) = refl

pub told_injective : (a b : Answer) → told a ≡ told b → a ≡ b
told_injective a b e = sym (back_told a) ∙ ap back e ∙ back_told b

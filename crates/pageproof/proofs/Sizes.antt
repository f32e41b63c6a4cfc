-- "the page is refused only above the stated sizes": of a schedule whose bytes and events are accepted.
use Prim.Native.Nat.{ℕ, ◌<◌}
use mathlib.Core.Path.{◌≡◌, refl}
use mathlib.Core.Bool.{Bool, true, false}
use mathlib.Core.List.{List, []}
use mathlib.Core.Logic.{◌⊎◌, inl, inr}
use native.Mathlib.Omega.{arith}
use lib.ListN.{length, get_or}
use lib.Dec.{ltb}
use borrow.Author.Tests.{ltb-true}
use Rattle.lists.proofs.FindLaws.{least_found}
use Rattle.lists.proofs.BoolLaws.{no_way, false_true}
use Rattle.answer.specs.Answers.{accepted, check, Answer, Taken, Contents, Endings}
use Rattle.image.specs.declared.Content.{Content}
use Rattle.schedule.specs.Layout.{schedule_answer}
use Rattle.schedule.specs.Run.{Ran, ran}
use Rattle.page.specs.Endings.{product}
use Rattle.page.specs.Refusals.{table_in, first_crowded, table_answer, page_answer, ending_count}

-- some line has more than 16 contents, or there are more than 65,536 endings
abbrev pub TooLarge : List (List Content) → Type 0
TooLarge t = ((l : ℕ) × (l < length t) × (16 < length (get_or t l []))) ⊎ (65536 < product t)

table_only : (t : List (List Content)) → accepted (table_answer t) ≡ false → TooLarge t
unfolding table_answer first_crowded
table_only t = by (ltb (first_crowded t) (length t)) refl (ltb 65536 (product t)) refl
  where
    by : (x : Bool) → ltb (first_crowded t) (length t) ≡ x → (y : Bool) → ltb 65536 (product t) ≡ y
        → accepted (check x (Contents (first_crowded t)) (check y Endings Taken)) ≡ false → TooLarge t
    by true e y f h =
        let lt = ltb-true (first_crowded t) (length t) e in
        inl (first_crowded t, lt, ltb-true 16 _ (least_found (λ l. ltb 16 (length (get_or t l []))) (length t) 0 (omega arith)))
    by false e true f h = inr (ltb-true 65536 (product t) f)
    by false e false f h = no_way h

pub refused_only : (s : List ℕ) → accepted (schedule_answer s) ≡ true → accepted (ran s).answer ≡ true → accepted (page_answer s) ≡ false → TooLarge (table_in s)
unfolding page_answer ending_count
refused_only s a b h = table_only (table_in s) (by (accepted (schedule_answer s)) (accepted (ran s).answer) a b h)
  where
    by : (x y : Bool) → x ≡ true → y ≡ true
        → accepted (elim x as (λ _. Answer) [ true ↦ elim y as (λ _. Answer) [ true ↦ table_answer (table_in s) | false ↦ (ran s).answer ] | false ↦ schedule_answer s ]) ≡ false
        → accepted (table_answer (table_in s)) ≡ false
    by true true p q z = z
    by true false p q z = false_true q
    by false y p q z = false_true p

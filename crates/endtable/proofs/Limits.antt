-- The code's two tests, for 14 and 15, are those of the lists.
use Prim.Native.Nat.{ℕ, ◌≤◌, ◌<◌, min}
use mathlib.Core.Path.{◌≡◌, refl, sym, ap, ◌∙◌}
use mathlib.Core.Bool.{Bool, true, false}
use mathlib.Core.List.{List, [], ◌∷◌, map}
use native.Mathlib.Omega.{arith}
use native.Mathlib.Decide.{dec_lt}
use lib.ListN.{length, get_or, drop}
use lib.Seq.{take_all}
use lib.Dec.{ltb}
use borrow.Author.Tests.{lt-ltb, le-ltb, ltb-false}
use Rattle.lists.proofs.FindLaws as find
use Rattle.image.specs.declared.Content.{Content}
use Rattle.machine.specs.Line.{shape_of, line_at, cached_at, persisted_at}
use Rattle.machine.specs.declared.Line.{Line}
use Rattle.schedule.specs.Run.{Bench}
use Rattle.page.specs.Contents.{joins, gathered, contents_of, table_of}
use Rattle.page.specs.Endings.{product}
use Rattle.page.specs.Refusals.{first_crowded, table_answer}
use Rattle.answer.specs.Answers.{check, Taken, Contents, Endings}
use Rattle.endtable.specs.Picks.{is_crowded, crowded_at, prod, counts_answer, Counted}
use Rattle.endtable.specs.Tables.{Tables}
use Rattle.moments.proofs.Joins as joined
use Rattle.moments.proofs.Moments as moments
use Rattle.endtable.proofs.Chosen as chosen

-- ---- no line is without a content

gathered_length : (seen l : List Content) → length seen ≤ length (gathered seen l)
unfolding gathered
gathered_length seen [] = omega arith
gathered_length seen (c ∷ l) = omega (arith, joined.joins_length seen c, gathered_length (joins seen c) l)

contents_some : (b : Bench) (l : Line) → 0 < length (contents_of b l)
unfolding contents_of
contents_some b l = omega (arith, gathered_length (persisted_at b.machine l ∷ []) (map (λ m. cached_at m l) (drop (b.from l) b.past)))

pub table_some : (b : Bench) (l : ℕ) → l < length (table_of b) → 0 < length (get_or (table_of b) l [])
table_some b l h = rw (moments.table_at b l (omega (arith, moments.table_length b))) (contents_some b (line_at (shape_of b.machine) l))

-- ---- 14

more_than : (n x : ℕ) → n ≡ min 17 x → ltb 16 x ≡ ltb 16 n
more_than n x e = by (dec_lt 16 x)
  where
    by : Dec (16 < x) → ltb 16 x ≡ ltb 16 n
    by (yes p) = lt-ltb 16 x p ∙ sym (lt-ltb 16 n (omega arith))
    by (no p) = le-ltb 16 x (omega arith) ∙ sym (le-ltb 16 n (omega arith))

module _ (t : List (List Content)) (cs : List ℕ) (lists : List (List Content)) (h : Tables t cs lists) where
  pub crowded_is : first_crowded lists ≡ crowded_at cs (length lists)
  unfolding first_crowded crowded_at
  crowded_is =
      find.least_same (λ l. ltb 16 (length (get_or lists l []))) (is_crowded cs) (length lists) 0
      (λ l p q. more_than (get_or cs l 0) (length (get_or lists l [])) (h.held l (omega arith)).counted)

  -- where none is found, no row is short
  pub fits : ((l : ℕ) → l < length lists → 0 < length (get_or lists l [])) → length lists ≤ crowded_at cs (length lists) → chosen.Fits lists
  unfolding crowded_at
  fits some p = record {
    some = some;
    few = λ l q.
        let z = ltb-false 16 (get_or cs l 0) (find.least_clear (is_crowded cs) (length lists) 0 (omega arith) l (omega arith) (omega arith)) in
        omega (arith, (h.held l q).counted);
  }

  -- ---- 15

  pub prod_is : chosen.Fits lists → prod cs (length lists) ≡ product lists
  prod_is f = chosen.prod_is cs lists (length lists) (omega arith) (chosen.lengths t cs lists h f) ∙ ap product (take_all (length lists) lists (omega arith))

  -- every line has a content in the table too, crowded or not
  pub counted : ((l : ℕ) → l < length lists → 0 < length (get_or lists l [])) → Counted cs (length lists)
  counted some l p = omega (arith, (h.held l p).counted, some l p)

-- the answer of the counts is that of the lists
pub answer_is : (t : List (List Content)) (cs : List ℕ) (lists : List (List Content)) → Tables t cs lists
    → ((l : ℕ) → l < length lists → 0 < length (get_or lists l [])) → counts_answer cs (length lists) ≡ table_answer lists
unfolding counts_answer table_answer
answer_is t cs lists h some = rw (crowded_is t cs lists h) (by (ltb (crowded_at cs (length lists)) (length lists)) refl)
  where
    by : (b : Bool) → ltb (crowded_at cs (length lists)) (length lists) ≡ b
        → check b (Contents (crowded_at cs (length lists))) (check (ltb 65536 (prod cs (length lists))) Endings Taken)
        ≡ check b (Contents (crowded_at cs (length lists))) (check (ltb 65536 (product lists)) Endings Taken)
    by true e = refl
    by false e =
        ap (λ (x : ℕ). check (ltb 65536 x) Endings Taken)
        (prod_is t cs lists h (fits t cs lists h some (ltb-false (crowded_at cs (length lists)) (length lists) e)))

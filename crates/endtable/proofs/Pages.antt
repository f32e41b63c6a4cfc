-- What the code's table tells of a bench: the answer of its page, how many endings it has, and each of them.
use Prim.Native.Nat.{ℕ, ◌<◌}
use mathlib.Core.Path.{◌≡◌, refl, sym, ap, subst, ◌∙◌}
use mathlib.Core.Bool.{Bool, true, false}
use mathlib.Core.List.{List}
use native.Mathlib.Omega.{arith}
use lib.ListN.{length, drop}
use lib.Dec.{ltb}
use borrow.Author.Tests.{ltb-false}
use Rattle.answer.specs.Answers.{check, accepted, Taken, Contents, Endings}
use Rattle.image.specs.declared.Content.{Content}
use Rattle.machine.specs.Line.{shape_of, line_count}
use Rattle.schedule.specs.Run.{Bench}
use Rattle.page.specs.Contents.{table_of}
use Rattle.page.specs.Endings.{product, ending}
use Rattle.page.specs.Refusals.{first_crowded, table_answer}
use Rattle.endtable.specs.Opened.{blank_counts}
use Rattle.endtable.specs.Picks.{prod, capped, counts_answer, Counted, Filled, Ready, picks_of, ending_from}
use Rattle.endtable.specs.Tables.{Tables}
use Rattle.endtable.proofs.Digits as digits
use Rattle.moments.proofs.Moments as moments
use Rattle.endtable.proofs.Chosen as chosen
use Rattle.endtable.proofs.Limits as limits

-- an answer of two checks that is accepted passed both
passed : (x y : Bool) (l : ℕ) → accepted (check x (Contents l) (check y Endings Taken)) ≡ true → (x ≡ false) × (y ≡ false)
passed true y l e = absurd (let z : ◌≡◌ {A = ℕ} 0 1 = cc in omega arith)
passed false true l e = absurd (let z : ◌≡◌ {A = ℕ} 0 1 = cc in omega arith)
passed false false l e = (refl, refl)

module _ (b : Bench) (t : List (List Content)) (cs : List ℕ) (h : Tables t cs (table_of b)) where
  size : length (table_of b) ≡ line_count (shape_of b.machine)
  size = moments.table_length b

  pub bench_counted : Counted cs (line_count (shape_of b.machine))
  bench_counted = subst (Counted cs) size (limits.counted t cs (table_of b) h (limits.table_some b))

  -- 14 and 15
  pub bench_answer : counts_answer cs (line_count (shape_of b.machine)) ≡ table_answer (table_of b)
  bench_answer = ap (counts_answer cs) (sym size) ∙ limits.answer_is t cs (table_of b) h (limits.table_some b)

  module _ (taken : accepted (table_answer (table_of b)) ≡ true) where
    tests : (ltb (first_crowded (table_of b)) (length (table_of b)) ≡ false) × (ltb 65536 (product (table_of b)) ≡ false)
    unfolding table_answer
    tests = passed (ltb (first_crowded (table_of b)) (length (table_of b))) (ltb 65536 (product (table_of b))) (first_crowded (table_of b)) taken

    pub bench_fits : chosen.Fits (table_of b)
    bench_fits =
        limits.fits t cs (table_of b) h (limits.table_some b)
        (omega (arith, limits.crowded_is t cs (table_of b) h, ltb-false (first_crowded (table_of b)) (length (table_of b)) tests.0))

    -- what picking an ending asks
    pub bench_ready : Ready cs (line_count (shape_of b.machine))
    bench_ready = subst (Ready cs) size (chosen.ready t cs (table_of b) h bench_fits)

    -- the picks are within the rows
    pub bench_filled : (k : ℕ) → Filled (picks_of cs (shape_of b.machine) k) (line_count (shape_of b.machine))
    unfolding picks_of
    bench_filled k = digits.digits_front cs (line_count (shape_of b.machine)) k (drop (line_count (shape_of b.machine)) blank_counts) bench_ready

    -- the count is that of the endings
    pub bench_count : capped (prod cs (line_count (shape_of b.machine))) ≡ product (table_of b)
    bench_count =
        ap (λ (n : ℕ). capped (prod cs n)) (sym size)
        ∙ ap capped (limits.prod_is t cs (table_of b) h bench_fits)
        ∙ digits.capped_below (product (table_of b)) tests.1

    -- ending k is ending k
    pub bench_ending : (k : ℕ) → k < product (table_of b) → ending_from t cs (shape_of b.machine) k ≡ ending (shape_of b.machine) (table_of b) k
    bench_ending k p = chosen.ending_is t cs (table_of b) h (shape_of b.machine) k size bench_fits p

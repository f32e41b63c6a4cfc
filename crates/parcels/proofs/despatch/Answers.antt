use Prim.Native.Nat.{ℕ}
use mathlib.Core.Path.{◌≡◌, sym, ap, ◌∙◌}
use mathlib.Core.List.{List}
use native.Mathlib.Omega.{arith}
use lib.ListN.{length}
use Rattle.answer.specs.Answers.{told, Answer}
use Rattle.answer.proofs.Injective.{told_injective}
use Rattle.answer.proofs.Results.{went_on, came_back, gave_none}
use Rattle.page.specs.Refusals.{ending_answer, ending_written}
use Rattle.lawful.specs.Demand3.{Bytes}
use Rattle.lawproof.proofs.Lawful3.{page_parts}
use Rattle.parcels.specs.Despatch.{despatch_count}
use Rattle.parcels.specs.Started.{no_bytes}
use Rattle.parcels.proofs.Gives.{ok_is, no_ok}
use Rattle.parcels.proofs.EndLaws as ends
use Rattle.parcels.proofs.despatch.Goals as goal

-- what ending_of answered, with a buffer of 1,024 bytes
answer-is : (s : List ℕ) (k : ℕ) (room : List ℕ) → room ≡ no_bytes → (a : Answer) → told a ≡ told (ending_answer s k (length room)) → a ≡ ending_answer s k 1024
answer-is s k room e a q =
    told_injective a (ending_answer s k 1024) (q ∙ ap (λ (n : ℕ). told (ending_answer s k n)) (ap length e ∙ ends.no_bytes_long))

pub returns-in_err-ending_of : goal.returns-in_err-ending_of
returns-in_err-ending_of c =
    let s = c.args.s.now in
    let k = c.args.k in
    let b = c.args.b.now in
    let r = answer-is s k c.no_bytes-room.result c.no_bytes-room.ensures c.ending_of.result c.ending_of.ensures.answers in
    let h = came_back r c.in_err-ending_of.was in record {
      gives = gave_none (despatch_count s k (length b)) (r ∙ sym (ends.refused_same s k (length b) h)) c.in_err-ending_of.was c.from_residual.ensures.1;
      bytes = ends.none_bytes s k h b;
    }

pub returns-in_err-d : goal.returns-in_err-d
returns-in_err-d c =
    let s = c.args.s.now in
    let k = c.args.k in
    let r = answer-is s k c.no_bytes-room.result c.no_bytes-room.ensures c.ending_of.result c.ending_of.ensures.answers in
    let g = ends.taken_there s k (went_on r c.in_ok-ending_of.was) in
    absurd (no_ok (sym c.in_err-d.was ∙ c.read_schedule.ensures ∙ ends.schedule_ok s (page_parts s g.page).0))

pub started-requires : goal.started-requires
started-requires c =
    let s = c.args.s.now in
    let k = c.args.k in
    let r = answer-is s k c.no_bytes-room.result c.no_bytes-room.ensures c.ending_of.result c.ending_of.ensures.answers in
    let g = ends.taken_there s k (went_on r c.in_ok-ending_of.was) in
    let a = (page_parts s g.page).0 in
    let z = ap length c.ending_of.ensures.bytes ∙ ends.written_long s k c.no_bytes-room.result ∙ ap length c.no_bytes-room.ensures ∙ ends.no_bytes_long in
    (a, ok_is (sym c.in_ok-d.was ∙ c.read_schedule.ensures ∙ ends.schedule_ok s a), omega (arith, ends.size_small s a, z))

pub returns-in_err-end : goal.returns-in_err-end
returns-in_err-end c =
    let s = c.args.s.now in
    let k = c.args.k in
    let y : Bytes s = λ j. omega (arith, c.type_inv.s j) in
    let r = answer-is s k c.no_bytes-room.result c.no_bytes-room.ensures c.ending_of.result c.ending_of.ensures.answers in
    let g = ends.taken_there s k (went_on r c.in_ok-ending_of.was) in
    absurd (no_ok (sym c.in_err-end.was ∙ c.started.ensures ∙ ends.end_is s y k g _ (c.ending_of.ensures.bytes ∙ ap (ending_written s k) c.no_bytes-room.ensures)))

pub packed-requires : goal.packed-requires
packed-requires c =
    let s = c.args.s.now in
    let k = c.args.k in
    let r = answer-is s k c.no_bytes-room.result c.no_bytes-room.ensures c.ending_of.result c.ending_of.ensures.answers in
    let g = ends.taken_there s k (went_on r c.in_ok-ending_of.was) in
    (g.page, ok_is (sym c.in_ok-d.was ∙ c.read_schedule.ensures ∙ ends.schedule_ok s (page_parts s g.page).0))

pub returns : goal.returns
returns c =
    let s = c.args.s.now in
    let k = c.args.k in
    let b = c.args.b.now in
    let y : Bytes s = λ j. omega (arith, c.type_inv.s j) in
    let r = answer-is s k c.no_bytes-room.result c.no_bytes-room.ensures c.ending_of.result c.ending_of.ensures.answers in
    let g = ends.taken_there s k (went_on r c.in_ok-ending_of.was) in
    let m = ok_is (sym c.in_ok-end.was ∙ c.started.ensures ∙ ends.end_is s y k g _ (c.ending_of.ensures.bytes ∙ ap (ending_written s k) c.no_bytes-room.ensures)) in
    let w = c.packed.ensures in record { gives = ends.desk_gives s y k g b _ _ _ m w; bytes = ends.desk_bytes s y k g b _ _ _ m w }

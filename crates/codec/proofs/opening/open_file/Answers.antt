use Prim.Native.Nat.{◌-◌}
use mathlib.Core.Bool.{true}
use mathlib.Core.Path.{◌≡◌, ap, ◌∙◌}
use native.Mathlib.Omega.{arith}
use lib.ListN.{length, drop, length-drop}
use lib.Seq.{take_all}
use Rattle.answer.specs.Answers.{accepted}
use Rattle.answer.proofs.Results.{went_on, gave, gave_none, given_same}
use Rattle.schedule.specs.Layout.{file_answer, schedule_in}
use Rattle.image.specs.Layout.{image_in}
use Rattle.codec.proofs.Accepted as laws
use Rattle.codec.proofs.opening.open_file.Goals as goal
use Rattle.codec.proofs.opening.open_file.Goals.{In_ok-check_file}

-- the file was taken
taken : (c : In_ok-check_file) → accepted (file_answer c.args.z c.args.w c.args.s.now) ≡ true
taken c = went_on c.check_file.ensures c.in_ok-check_file.was

pub bounds-s-5 : goal.bounds-s-5
bounds-s-5 c = omega (arith, (laws.file_taken _ _ _ (taken (goal.at.bounds-s-5 c).In_ok-check_file)).long)

pub half_at-count-requires : goal.half_at-count-requires
half_at-count-requires c = (laws.file_taken _ _ _ (taken c)).long

pub slice_bounds-image_in-count : goal.slice_bounds-image_in-count
slice_bounds-image_in-count c = (laws.file_taken _ _ _ (taken (goal.at.slice_bounds-image_in-count c).In_ok-check_file)).long

pub image_in-image-requires : goal.image_in-image-requires
image_in-image-requires c =
    let s = c.args.s.now in
    rw (take_all (length s - 8) (drop 8 s) (omega (arith, length-drop 8 s))) (laws.file_lies _ _ s (taken (goal.at.image_in-image-requires c).In_ok-check_file))

pub returns-in_err-check_file : goal.returns-in_err-check_file
returns-in_err-check_file c = gave_none _ c.check_file.ensures c.in_err-check_file.was c.from_residual.ensures.1

pub returns : goal.returns
unfolding schedule_in
returns c =
    let s = c.args.s.now in
    let e = c.image_in-image.ensures ∙ ap image_in (take_all (length s - 8) (drop 8 s) (omega (arith, length-drop 8 s))) in
    gave _ c.check_file.ensures c.in_ok-check_file.was ∙ given_same (file_answer c.args.z c.args.w s) (λ h. rw (h, ← c.half_at-count.ensures, ← e))

use mathlib.Core.Path.{refl, sym, ap, ◌∙◌}
use Rattle.answer.specs.Answers.{Answer, given}
use Rattle.answer.proofs.Results.{came_back, given_taken, given_refused, handed_none}
use Rattle.schedule.specs.Layout.{file_answer, read_by}
use Rattle.replaying.specs.Probe.{probe_answer}
use Rattle.replaying.specs.Replay.{replay_of, difference_in}
use Rattle.replaying.proofs.ReplayLaws as laws
use Rattle.replaying.proofs.replay.Goals as goal

pub returns-in_err-schedule : goal.returns-in_err-schedule
unfolding probe_answer
returns-in_err-schedule c =
    let s = c.args.s.now in
    let x = (read_by (file_answer 82 12 s) s).schedule in
    let d = difference_in (replay_of s) in
    let w = given_refused (probe_answer s) x c.open_file.ensures c.in_err-schedule.was in
    handed_none (probe_answer s) x d c.open_file.ensures c.in_err-schedule.was c.from_residual.ensures.1
    ∙ ap (λ (a : Answer). given a d) (sym (laws.answer_else s (came_back refl w)))

pub replay_events-requires : goal.replay_events-requires
unfolding probe_answer
replay_events-requires c =
    let s = c.args.s.now in
    let g = given_taken (probe_answer s) (read_by (file_answer 82 12 s) s).schedule c.open_file.ensures c.in_ok-schedule.was in
    (g.0, g.1 ∙ laws.read_taken s g.0)

use lib.ListN.{length}
use Rattle.replaying.specs.Replay.{replay_of}
use Rattle.calls.specs.Probes.{replay_answered, odd_value}
use Rattle.calls.proofs.Gives as gives
use Rattle.probecalls.proofs.replay.Goals as goal

pub returns-clause-answers : goal.returns-clause-answers
returns-clause-answers c =
    let s = c.args.file.now in
    gives.packs (replay_answered s (length c.args.buffer.now)) (odd_value (replay_of s)) c.packed_result.ensures c.replayed.ensures.answers

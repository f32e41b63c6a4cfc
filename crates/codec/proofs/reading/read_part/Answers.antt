use Rattle.answer.proofs.Results.{went_on}
use Rattle.codec.proofs.Accepted as laws
use Rattle.codec.proofs.reading.read_part.Goals as goal

pub image_in-requires : goal.image_in-requires
image_in-requires c = (laws.part_taken c.args.t c.args.more c.args.s.now (went_on c.check_part.ensures c.in_ok-check_part.was)).lies

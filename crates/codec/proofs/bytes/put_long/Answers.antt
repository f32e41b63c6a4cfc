use Rattle.codec.proofs.Laws as laws
use Rattle.codec.proofs.bytes.put_long.Goals as goal

pub returns : goal.returns
returns c = rw (c.put_word-2.ensures, c.put_word.ensures) (laws.long_over c.args.b.now c.args.at c.args.x)

use native.Mathlib.Omega.{arith}
use Rattle.wordreader.proofs.PutLaws as puts
use Rattle.wordreader.proofs.putting.put_one_head.Goals as goal

pub head_start-at-requires : goal.head_start-at-requires
head_start-at-requires c = (c.requires.0, omega (arith, c.head_lines.ensures, c.if-head_lines-k.false, puts.lines_few c.args.g (omega arith)))

pub put_index-requires : goal.put_index-requires
put_index-requires c = (c.requires.0, omega (arith, c.head_start-at.ensures, c.requires.1, puts.head_within c.args.g c.args.k (omega (arith, c.head_lines.ensures, c.if-head_lines-k.false))))

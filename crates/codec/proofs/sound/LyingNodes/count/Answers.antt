use mathlib.Core.Path.{sym}
use Rattle.codec.proofs.Lying.{nodes_in_lem}
use Rattle.codec.proofs.sound.LyingNodes.count.Goals as goal

pub returns : goal.returns
returns c = let w = c.args.self.now in sym (nodes_in_lem _ _ w.lies)

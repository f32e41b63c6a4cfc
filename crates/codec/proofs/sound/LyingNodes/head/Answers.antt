use Prim.Native.Nat.{ℕ}
use mathlib.Core.List.{List}
use mathlib.Core.Path.{sym, ap, ◌∙◌}
use Rattle.image.specs.Form.{head_lines}
use Rattle.image.specs.Recovered.{largest}
use Rattle.codec.proofs.Lying.{head_in, lines_lie}
use Rattle.codec.proofs.sound.LyingNodes.head.Goals as goal

pub heads_in-heads-requires : goal.heads_in-heads-requires
heads_in-heads-requires c = let w = c.args.self.now in (w.lies.form, lines_lie _ _ w.lies)

pub head_of-requires : goal.head_of-requires
head_of-requires c = let w = c.args.self.now in (lines_lie _ _ w.lies).0

pub returns : goal.returns
returns c =
    let w = c.args.self.now in
    c.head_of.ensures ∙ ap (λ (l : List ℕ). largest l (head_lines w.shape)) c.heads_in-heads.ensures ∙ sym (head_in w.bytes.now w.shape w.lies)

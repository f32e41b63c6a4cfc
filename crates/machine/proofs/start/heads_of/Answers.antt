use Prim.Native.Nat.{ℕ}
use mathlib.Core.Path.{◌≡◌, ap, ap₂, ◌∙◌}
use mathlib.Core.List.{List, ◌++◌}
use native.Mathlib.Omega.{arith}
use lib.ListN.{length, drop}
use borrow.Author.Rules.{rules}
use Rattle.lists.specs.Tab.{front}
use Rattle.lists.proofs.TabLaws.{front_copy}
use Rattle.image.specs.Layout.{no_heads, head_in, heads_of}
use Rattle.machine.proofs.start.heads_of.Goals as goal

pub returns : goal.returns
unfolding heads_of
returns c =
    let g = c.args.g.now in
    let n = c.head_lines-lines.result in
    let all : length g.heads ≡ 8 = search rules in
    let e = rw c.shape.ensures at c.head_lines-lines.ensures in
    ap₂ (λ (a b : List ℕ). a ++ drop n b) c.copy_from_slice.ensures.after c.no_heads-heads.ensures
    ∙ front_copy g.heads no_heads 0 n (omega (arith, e)) ∙ ap (λ (k : ℕ). front (head_in g) k no_heads) e

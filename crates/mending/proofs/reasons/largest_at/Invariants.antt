use mathlib.Core.Path.{◌≡◌}
use Rattle.image.specs.Layout.{image_in}
use Rattle.mending.specs.Mended.{largest_at}
use Rattle.mending.proofs.reasons.largest_at.Given as goal

abbrev pub invariant-loop-k : goal.invariant-loop-k
invariant-loop-k l = l.r ≡ largest_at (image_in l.w.bytes.now) l.k

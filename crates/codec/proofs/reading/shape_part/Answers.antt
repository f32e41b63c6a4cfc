use mathlib.Core.Bool.{not}
use mathlib.Core.Path.{sym, ◌∙◌}
use borrow.Author.Tests.{eq-eqb, ne_eqb, lt-ltb, le-ltb}
use Prim.Native.Nat.{◌+◌}
use lib.Dec.{eqb}
use lib.ListN.{length}
use Rattle.answer.specs.Answers.{check, Taken, Length}
use Rattle.answer.proofs.Results.{went_on, came_back, returned}
use Rattle.image.specs.Form.{image_size}
use Rattle.image.proofs.ShapeLaws.{Shaped, shape_is, shape_then, shape_else, nodes_range}
use Rattle.codec.specs.Parts.{shape}
use Rattle.codec.proofs.Shapes.{size_most}
use native.Mathlib.Omega.{arith}
use Rattle.codec.proofs.reading.shape_part.Goals as goal
use Rattle.codec.proofs.reading.shape_part.Goals.{In_ok-shape_of}

-- the shape that was found passed 2, 3 and 4
shaped : (c : In_ok-shape_of) → Shaped c.args.t c.shape_in-z.result
shaped c = (shape_is _ _ Taken (went_on c.shape_of.ensures c.in_ok-shape_of.was)).0

pub returns-then-len-lt10 : goal.returns-then-len-lt10
unfolding shape
returns-then-len-lt10 c = rw (lt-ltb _ _ c.if-len-lt10.true)

pub returns-in_err-shape_of : goal.returns-in_err-shape_of
unfolding shape
returns-in_err-shape_of c =
    let z = c.shape_in-z.result in
    rw (le-ltb _ _ c.if-len-lt10.false, ← c.shape_in-z.ensures) (returned c.shape_of.ensures c.in_err-shape_of.was c.from_residual.ensures.1 ∙ sym (shape_else c.args.t z (check (not (eqb (length c.args.s.now) (image_size z + c.args.more))) Length Taken) (came_back c.shape_of.ensures c.in_err-shape_of.was)))

pub size_of-requires : goal.size_of-requires
size_of-requires c = (shaped (goal.at.size_of-requires c).In_ok-shape_of).form

pub overflow_add-size_of : goal.overflow_add-size_of
overflow_add-size_of c =
    let f = shaped (goal.at.overflow_add-size_of c).In_ok-shape_of in
    omega (arith, c.size_of.ensures, (size_most c.shape_in-z.result f.form (nodes_range _ f.nodes).1 f.own).1, c.requires)

pub returns-then-len-size_of : goal.returns-then-len-size_of
unfolding shape
returns-then-len-size_of c = rw (le-ltb _ _ c.if-len-lt10.false, ← c.shape_in-z.ensures, shape_then _ _ _ (shaped (goal.at.returns-then-len-size_of c).In_ok-shape_of), ← c.size_of.ensures, ne_eqb _ _ c.if-len-size_of.true)

pub returns : goal.returns
unfolding shape
returns c = rw (le-ltb _ _ c.if-len-lt10.false, ← c.shape_in-z.ensures, shape_then _ _ _ (shaped (goal.at.returns c).In_ok-shape_of), ← c.size_of.ensures, eq-eqb _ _ c.if-len-size_of.false)

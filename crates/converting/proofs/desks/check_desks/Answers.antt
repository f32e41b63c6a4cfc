use mathlib.Core.Bool.{not}
use mathlib.Core.Path.{sym, ◌∙◌}
use lib.Dec.{eqb}
use lib.ListN.{length}
use borrow.Author.Tests.{eq-eqb, ne_eqb, lt-ltb, le-ltb}
use Rattle.answer.proofs.Results.{went_on, came_back, returned}
use Rattle.answer.specs.Answers.{check, Taken, Length}
use Rattle.image.specs.Form.{image_size}
use Rattle.image.specs.Layout.{image_in}
use Rattle.image.specs.Refusals.{sound}
use Rattle.image.proofs.ShapeLaws.{Shaped, shape_is, shape_then, shape_else, nodes_range}
use Rattle.converting.specs.Desks.{desks_answer}
use native.Mathlib.Omega.{arith}
use Rattle.converting.proofs.desks.check_desks.Goals as goal
use Rattle.converting.proofs.desks.check_desks.Goals.{In_ok-shape_of}

-- the shape that was found passed 3 and 4
shaped : (c : In_ok-shape_of) → let z = c.shape_in-z.result in Shaped z.t z
shaped c =
    (shape_is _ _ Taken (went_on c.shape_of.ensures c.in_ok-shape_of.was)).0

pub returns-then-len-lt7 : goal.returns-then-len-lt7
unfolding desks_answer
returns-then-len-lt7 c = rw (lt-ltb _ _ c.if-len-lt7.true)

pub returns-then-z-ne4 : goal.returns-then-z-ne4
unfolding desks_answer
returns-then-z-ne4 c = rw (le-ltb _ _ c.if-len-lt7.false, ← c.shape_in-z.ensures, ne_eqb _ _ c.if-z-ne4.true)

pub returns-in_err-shape_of : goal.returns-in_err-shape_of
unfolding desks_answer
returns-in_err-shape_of c =
    let s = c.args.s.now in
    let z = c.shape_in-z.result in
    let h = came_back c.shape_of.ensures c.in_err-shape_of.was in
    rw (le-ltb _ _ c.if-len-lt7.false, ← c.shape_in-z.ensures, eq-eqb _ _ c.if-z-ne4.false)
    (returned c.shape_of.ensures c.in_err-shape_of.was c.from_residual.ensures.1 ∙ sym (shape_else z.t z (check (not (eqb (length s) (image_size z))) Length (sound (image_in s) Taken)) h))

pub size_of-requires : goal.size_of-requires
size_of-requires c = (shaped (goal.at.size_of-requires c).In_ok-shape_of).form

pub returns-then-len-size_of : goal.returns-then-len-size_of
unfolding desks_answer
returns-then-len-size_of c = rw (le-ltb _ _ c.if-len-lt7.false, ← c.shape_in-z.ensures, eq-eqb _ _ c.if-z-ne4.false, shape_then _ _ _ (shaped (goal.at.returns-then-len-size_of c).In_ok-shape_of), ← c.size_of.ensures, ne_eqb _ _ c.if-len-size_of.true)

pub sound_at-requires : goal.sound_at-requires
sound_at-requires c =
    let f = shaped (goal.at.sound_at-requires c).In_ok-shape_of in
    record { shape = c.shape_in-z.ensures; form = f.form; nodes = (nodes_range _ f.nodes).1; own = f.own; long = omega (arith, c.size_of.ensures, c.if-len-size_of.false) }

pub returns : goal.returns
unfolding desks_answer
returns c = rw (le-ltb _ _ c.if-len-lt7.false, ← c.shape_in-z.ensures, eq-eqb _ _ c.if-z-ne4.false, shape_then _ _ _ (shaped (goal.at.returns c).In_ok-shape_of), ← c.size_of.ensures, eq-eqb _ _ c.if-len-size_of.false) c.sound_at.ensures

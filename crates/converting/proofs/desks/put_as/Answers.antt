use Prim.Native.Nat.{◌≤◌}
use mathlib.Core.Bool.{true}
use mathlib.Core.Path.{◌≡◌, sym, ap, subst, ◌∙◌}
use lib.ListN.{length}
use Rattle.lists.specs.Tab.{over}
use Rattle.answer.specs.Answers.{accepted}
use Rattle.image.specs.Form.{known, head_lines, image_size}
use Rattle.image.specs.Layout.{image_shape, image_bytes}
use Rattle.image.specs.declared.Image.{Image}
use Rattle.image.proofs.HeadLaws.{lines_few}
use Rattle.converting.specs.Desks.{reheaded, other_of}
use Rattle.converting.proofs.DeskLaws as laws
use Rattle.converting.proofs.desks.put_as.Goals as goal

pub image_in-g-requires : goal.image_in-g-requires
image_in-g-requires c = c.requires.lies

pub reheaded_of-g-requires : goal.reheaded_of-g-requires
reheaded_of-g-requires c = (subst (λ (g : Image). head_lines (image_shape g) ≤ 8) (sym c.image_in-g.ensures) (laws.lies_few _ c.requires.lies).1, c.requires.threads)

pub size_of-requires : goal.size_of-requires
size_of-requires c = rw (c.shape.ensures, c.reheaded_of-g.ensures) c.requires.form

pub returns-then-b-size_of : goal.returns-then-b-size_of
returns-then-b-size_of c =
    let o : c.reheaded_of-g.result ≡ other_of c.args.form c.args.t c.args.s.now = c.reheaded_of-g.ensures ∙ ap (reheaded c.args.form c.args.t) c.image_in-g.ensures in
    let size = c.size_of.ensures ∙ ap image_size c.shape.ensures ∙ ap (λ (g : Image). image_size (image_shape g)) o in
    let e = laws.room_none c.args.form c.args.t c.args.s.now (length c.args.b.now) (rw (← size) c.if-b-size_of.true) in record { answers = sym e; bytes = sym (laws.put_none c.args.form c.args.t c.args.s.now c.args.b.now (ap accepted e)) }

pub put_image-requires : goal.put_image-requires
put_image-requires c =
    let o : c.reheaded_of-g.result ≡ other_of c.args.form c.args.t c.args.s.now = c.reheaded_of-g.ensures ∙ ap (reheaded c.args.form c.args.t) c.image_in-g.ensures in
    let size = c.size_of.ensures ∙ ap image_size c.shape.ensures ∙ ap (λ (g : Image). image_size (image_shape g)) o in
    subst (λ (g : Image). (known g.form ≡ true) × ((g.n ≤ 64) × ((head_lines (image_shape g) ≤ 8) × (image_size (image_shape g) ≤ length c.args.b.now)))) (sym o)
    (c.requires.form, ((laws.lies_few c.args.s.now c.requires.lies).0, (lines_few (image_shape (other_of c.args.form c.args.t c.args.s.now)) c.requires.threads, rw (← size) c.if-b-size_of.false)))

pub returns : goal.returns
returns c =
    let o : c.reheaded_of-g.result ≡ other_of c.args.form c.args.t c.args.s.now = c.reheaded_of-g.ensures ∙ ap (reheaded c.args.form c.args.t) c.image_in-g.ensures in
    let size = c.size_of.ensures ∙ ap image_size c.shape.ensures ∙ ap (λ (g : Image). image_size (image_shape g)) o in
    let e = laws.room_there c.args.form c.args.t c.args.s.now (length c.args.b.now) (rw (← size) c.if-b-size_of.false) in record { answers = sym e; bytes = c.put_image.ensures ∙ ap (λ (g : Image). over c.args.b.now 0 (image_bytes g)) o ∙ sym (laws.put_there c.args.form c.args.t c.args.s.now c.args.b.now (ap accepted e)) }

use mathlib.Core.Path.{ap, ◌∙◌}
use native.Mathlib.Omega.{arith}
use Rattle.image.specs.Form.{known}
use Rattle.image.specs.declared.Shape.{Shape}
use Rattle.spelling.specs.Layout.{said_shape, head_start, events_start}
use Rattle.wordreader.proofs.PutLaws as puts
use Rattle.wordreader.proofs.putting.put_blank.Goals as goal

pub put_header-requires : goal.put_header-requires
put_header-requires c = (c.requires.0, omega (arith, c.requires.2, puts.first_behind (said_shape c.args.v)))

pub head_start-first-requires : goal.head_start-first-requires
head_start-first-requires c = (ap (λ (g : Shape). known g.form) c.shape_said-g.ensures ∙ c.requires.0, omega arith)

pub node_start-requires : goal.node_start-requires
node_start-requires c = (ap (λ (g : Shape). known g.form) c.shape_said-g.ensures ∙ c.requires.0, omega arith)

pub overflow_mul-size : goal.overflow_mul-size
overflow_mul-size c = omega (arith, c.requires.1)

pub overflow_add-size : goal.overflow_add-size
overflow_add-size c = omega (arith, c.node_start.ensures.few, c.requires.1)

pub overflow_sub-size : goal.overflow_sub-size
overflow_sub-size c =
    let e = ap (λ (g : Shape). events_start g) c.shape_said-g.ensures in
    let f = ap (λ (g : Shape). head_start g.form 0) c.shape_said-g.ensures in
    omega (arith, e, f, c.node_start.ensures.start, c.head_start-first.ensures, puts.first_behind (said_shape c.args.v))

pub put_zeros-requires : goal.put_zeros-requires
put_zeros-requires c =
    let e = ap (λ (g : Shape). events_start g) c.shape_said-g.ensures in
    let f = ap (λ (g : Shape). head_start g.form 0) c.shape_said-g.ensures in
    omega (arith, e, f, c.node_start.ensures.start, c.head_start-first.ensures, puts.first_behind (said_shape c.args.v), c.requires.2, c.put_header.auto.b)

pub returns : goal.returns
returns c =
    let s = c.shape_said-g.ensures in
    let k = c.head_start-first.ensures ∙ ap (λ (g : Shape). head_start g.form 0) s in
    let m = c.node_start.ensures.start ∙ ap (λ (g : Shape). events_start g) s in
    c.put_zeros.ensures
    ∙ rw (m, k, c.put_header.ensures) (puts.blank_over c.args.b.now c.args.v c.requires.0)

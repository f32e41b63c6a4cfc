use Prim.Native.Nat.{ℕ, ◌-◌}
use mathlib.Core.Path.{ap, ◌∙◌}
use native.Mathlib.Omega.{arith}
use lib.ListN.{length, drop, length-drop}
use lib.Seq.{take_all}
use Rattle.image.specs.Form.{form_of, head_count, head_lines}
use Rattle.image.specs.Layout.{form_in}
use Rattle.schedule.specs.Layout.{threads_in}
use Rattle.linecalls.proofs.head_count.Goals as goal

pub form_in-form-requires : goal.form_in-form-requires
form_in-form-requires c =
    let s = c.args.s.now in
    let e = take_all (length s - 8) (drop 8 s) (omega (arith, length-drop 8 s)) in
    rw e (omega (arith, length-drop 8 s, c.requires))

-- N does not matter
pub returns : goal.returns
unfolding head_lines
returns c =
    let s = c.args.s.now in
    let e = c.form_in-form.ensures ∙ ap form_in (take_all (length s - 8) (drop 8 s) (omega (arith, length-drop 8 s))) in
    c.head_lines.ensures ∙ ap (λ (f : ℕ). head_count (form_of f) (threads_in s)) e

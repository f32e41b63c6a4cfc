use mathlib.Core.Path.{sym, ap, ◌∙◌}
use lib.ListN.{length}
use Rattle.answer.specs.Answers.{told}
use Rattle.image.specs.Refusals.{write_answer, written}
use Rattle.image.specs.declared.Image.{Image}
use Rattle.events.proofs.ByAnswer as by
use Rattle.events.proofs.save.Goals as goal

pub returns-then-not-in_range : goal.returns-then-not-in_range
returns-then-not-in_range c =
    let h = by.save_out c.args.m c.args.b.now (sym c.in_range.ensures ∙ c.if-not-in_range.true) in
    record { answers = ap told (sym h.0); bytes = sym h.1 }

pub returns : goal.returns
returns c =
    let h = by.save_in c.args.m c.args.b.now (sym c.in_range.ensures ∙ c.if-not-in_range.false) in
    record {
      answers = rw h.0 (c.write_image.ensures.answers ∙ ap (λ (g : Image). told (write_answer g (length c.args.b.now))) c.kept_image.ensures);
      bytes = rw h.1 (c.write_image.ensures.bytes ∙ ap (λ (g : Image). written g c.args.b.now) c.kept_image.ensures);
    }

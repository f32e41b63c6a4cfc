use native.Mathlib.Omega.{arith}
use mathlib.Core.Path.{refl, sym, ap, ap₂, ◌∙◌}
use lib.ListN.{get_or, drop}
use Rattle.spelling.specs.declared.Line.{Line}
use Rattle.spelling.specs.declared.Survey.{Survey}
use Rattle.spelling.specs.Lines.{acts_from}
use Rattle.spelling.specs.Reading.{surveyed, survey_from, last_from}
use Rattle.wordreader.proofs.TurnLaws as turns
use Rattle.wordreader.proofs.surveying.survey_of.Goals as goal

pub loop-x-init : goal.loop-x-init
loop-x-init c =
    let t = c.args.t.now in (
      omega arith,
      turns.survey_start t ∙ ap₂ (λ (v : Survey) (l : Line). survey_from 0 v (acts_from l (drop 0 t))) (sym c.no_survey-v.ensures) (sym c.no_line-l.ensures),
      turns.last_start t ∙ ap (λ (l : Line). last_from 0 (acts_from l (drop 0 t))) (sym c.no_line-l.ensures),
    )

pub loop-x-preserved : goal.loop-x-preserved
loop-x-preserved c =
    let t = c.args.t.now in
    let k = c.loop-x.x-index in
    let n = c.next_number-line.ensures in
    let m = c.next_line-l.ensures in
    let w = c.next_survey-v.ensures in (
      omega (arith, n, turns.number_le c.loop-x.line (get_or t k 0) k c.loop-x.invariant.0),
      c.loop-x.invariant.1 ∙ turns.survey_turn t k c.loop-x.line c.loop-x.v c.loop-x.l (omega arith) ∙ rw (← n, ← w, ← m) refl,
      c.loop-x.invariant.2 ∙ turns.last_turn t k c.loop-x.line c.loop-x.v c.loop-x.l (omega arith) ∙ rw (← n, ← m) refl,
    )

pub returns : goal.returns
returns c =
    let t = c.args.t.now in
    let k = c.loop-x.x-index in
    record {
      survey = c.survey_act.ensures ∙ ap (surveyed c.loop-x.line c.loop-x.v) c.said_of.ensures ∙ sym (c.loop-x.invariant.1 ∙ turns.survey_end t k c.loop-x.line c.loop-x.v c.loop-x.l (omega arith));
      last = sym (c.loop-x.invariant.2 ∙ turns.last_end t k c.loop-x.line c.loop-x.v c.loop-x.l (omega arith));
    }

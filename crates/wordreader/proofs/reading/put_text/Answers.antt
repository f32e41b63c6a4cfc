use native.Mathlib.Omega.{arith}
use mathlib.Core.Path.{refl, sym, ap, ◌∙◌}
use lib.ListN.{drop}
use Rattle.spelling.specs.declared.Line.{Line}
use Rattle.spelling.specs.Lines.{acts_from}
use Rattle.spelling.specs.Reading.{put_by, put_all}
use Rattle.wordreader.proofs.TurnLaws as turns
use Rattle.wordreader.proofs.reading.put_text.Goals as goal

pub loop-x-init : goal.loop-x-init
loop-x-init c = (
  omega arith,
  refl,
  turns.put_start c.args.t.now c.args.g c.args.z c.args.b.now c.args.from ∙ ap (λ (l : Line). put_all c.args.g c.args.z c.args.b.now c.args.from (acts_from l (drop 0 c.args.t.now))) (sym c.no_line-l.ensures),
)

pub next_put-p-requires : goal.next_put-p-requires
next_put-p-requires c = (c.requires.0, omega (arith, c.loop-x.invariant.1), omega arith, omega arith, omega (arith, c.requires.4))

pub loop-x-preserved : goal.loop-x-preserved
loop-x-preserved c =
    let t = c.args.t.now in
    let m = c.next_line-l.ensures in (
      c.next_put-p.ensures.within,
      c.next_put-p.auto.b ∙ c.loop-x.invariant.1,
      c.loop-x.invariant.2 ∙ turns.put_turn t c.loop-x.x-index c.args.g c.args.z c.loop-x.b c.loop-x.p c.loop-x.l (omega arith) ∙ rw (← c.next_put-p.ensures.bytes, ← c.next_put-p.ensures.reach, ← m) refl,
    )

pub put_act-requires : goal.put_act-requires
put_act-requires c = (c.requires.0, omega (arith, c.loop-x.invariant.1), omega arith, omega arith, omega (arith, c.requires.4))

pub returns : goal.returns
returns c =
    let t = c.args.t.now in
    c.put_act.ensures.bytes ∙ ap (put_by c.args.g c.args.z c.loop-x.b c.loop-x.p) c.said_of.ensures ∙ sym (c.loop-x.invariant.2 ∙ turns.put_end t c.loop-x.x-index c.args.g c.args.z c.loop-x.b c.loop-x.p c.loop-x.l (omega arith))

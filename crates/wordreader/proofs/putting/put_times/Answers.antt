use mathlib.Core.Path.{◌≡◌, ap, ◌∙◌}
use Prim.Native.Nat.{◌+◌, ◌*◌}
use native.Mathlib.Omega.{arith}
use Rattle.lists.specs.Tab.{over}
use Rattle.printing.proofs.Written as written
use Rattle.wordreader.proofs.PutLaws as puts
use Rattle.spelling.specs.Layout.{event_said}
use Rattle.spelling.specs.Reading.{times}
use Rattle.wordreader.proofs.putting.put_times.Goals as goal

pub loop-i-init : goal.loop-i-init
loop-i-init c = puts.times_none c.args.b.now c.args.at (event_said c.args.kind c.args.number c.args.item)

pub put_event_at-requires : goal.put_event_at-requires
put_event_at-requires c = let m = written.same_room c.args.b.now c.args.at (times c.loop-i.i (event_said c.args.kind c.args.number c.args.item)) c.loop-i.invariant in omega (arith, m)

pub loop-i-preserved : goal.loop-i-preserved
loop-i-preserved c = c.put_event_at.ensures ∙ ap (λ l. over l (c.args.at + c.loop-i.i * 6) (event_said c.args.kind c.args.number c.args.item)) c.loop-i.invariant ∙ puts.times_next c.args.b.now c.args.at c.loop-i.i c.args.kind c.args.number c.args.item

pub returns : goal.returns
returns c = let e : c.loop-i.i ≡ c.args.d = omega arith in c.loop-i.invariant ∙ ap (λ n. over c.args.b.now c.args.at (times n (event_said c.args.kind c.args.number c.args.item))) e

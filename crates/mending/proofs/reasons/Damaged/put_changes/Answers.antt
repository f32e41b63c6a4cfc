use mathlib.Core.Path.{◌≡◌, sym, ap, ◌∙◌}
use native.Mathlib.Omega.{arith}
use lib.ListN.{length, length-append}
use Rattle.lists.specs.Tab.{over}
use Rattle.lists.proofs.TabLaws.{length_over}
use Rattle.image.specs.Layout.{image_in}
use Rattle.mending.specs.Mended.{reason_at, entry_of, changes}
use Rattle.mending.specs.Reasons.{why_number}
use Rattle.mending.proofs.Turns as turns
use Rattle.mending.proofs.reasons.Damaged.put_changes.Goals as goal

pub loop-i-init : goal.loop-i-init
unfolding over
loop-i-init c =
    let g = image_in c.args.self.now.lying.bytes.now in
    (ap length (turns.changes_none g), ap (over c.args.l.now 0) (turns.changes_none g))

pub put_entry-at-requires : goal.put_entry-at-requires
put_entry-at-requires c =
    let g = image_in c.args.self.now.lying.bytes.now in
    let e : length (entry_of c.loop-i.i (why_number c.reason-why.result)) ≡ length (entry_of c.loop-i.i (reason_at g c.loop-i.i)) = ap (λ w. length (entry_of c.loop-i.i w)) c.reason-why.ensures in
    omega (arith, c.loop-i.invariant.0, e, turns.entry_within g c.loop-i.i g.n (omega (arith, c.count-n.ensures)), c.requires, ap length c.loop-i.invariant.1, length_over c.args.l.now 0 (changes g c.loop-i.i))

pub loop-i-preserved : goal.loop-i-preserved
loop-i-preserved c =
    let g = image_in c.args.self.now.lying.bytes.now in
    let r = c.reason-why.ensures in
    let e = rw (r, c.loop-i.invariant.0) at c.put_entry-at.ensures.next in
    let f = rw (r, c.loop-i.invariant.0, c.loop-i.invariant.1) at c.put_entry-at.ensures.bytes in
    (e ∙ sym (length-append (changes g c.loop-i.i) (entry_of c.loop-i.i (reason_at g c.loop-i.i))) ∙ ap length (turns.changes_next g c.loop-i.i), f ∙ turns.entry_over g c.args.l.now c.loop-i.i)

pub returns : goal.returns
returns c =
    let g = image_in c.args.self.now.lying.bytes.now in
    let e : c.loop-i.i ≡ g.n = omega (arith, c.count-n.ensures) in
    c.loop-i.invariant.1 ∙ ap (λ n. over c.args.l.now 0 (changes g n)) e

use Prim.Native.Nat.{◌+◌, ◌-◌, ◌≤◌}
use mathlib.Core.Path.{◌≡◌, refl, ap, subst, ◌∙◌}
use lib.ListN.{length}
use Rattle.lists.specs.Tab.{over}
use Rattle.lists.proofs.TabLaws as tabs
use Rattle.image.specs.Layout.{no_contents, no_heads}
use Rattle.machine.specs.Line.{line_count}
use Rattle.page.specs.Filled.{lines_on, fitting}
use Rattle.endtable.specs.Picks.{picked_node, picked_head, turned_of}
use Rattle.endtable.proofs.Turns as turns
use Rattle.endtable.proofs.Openings as openings
use Rattle.printing.specs.Lines.{line_from}
use Rattle.printing.proofs.Written as written
use Rattle.printing.proofs.Fittings as laws
use Rattle.printing.proofs.Picked as picked
use native.Mathlib.Omega.{arith}
use Rattle.printing.proofs.stretch.write_endings.Goals as goal

pub head_lines-lines-requires : goal.head_lines-lines-requires
head_lines-lines-requires c = tt

pub own_threads-held-requires : goal.own_threads-held-requires
own_threads-held-requires c = tt

pub ending_picks-picks-requires : goal.ending_picks-picks-requires
ending_picks-picks-requires c = (c.requires.0, c.requires.1, c.requires.2.0)

pub loop-k-init : goal.loop-k-init
loop-k-init c =
    let s = laws.on_start (line_from c.args.t c.args.counts c.args.z) c.args.from c.args.b.now c.args.at in
    (omega arith, omega arith, omega arith, s.0, s.1, refl, c.ending_picks-picks.ensures, λ h. absurd (omega arith))

pub no_contents-nodes-requires : goal.no_contents-nodes-requires
no_contents-nodes-requires c = tt

pub loop-i-init : goal.loop-i-init
loop-i-init c = (omega arith, c.no_contents-nodes.ensures ∙ tabs.front_none (picked_node c.args.t c.loop-k.picks c.args.z) no_contents)

pub overflow_add-j : goal.overflow_add-j
overflow_add-j c = omega (arith, c.head_lines-lines.ensures)

pub bounds-picks-lines : goal.bounds-picks-lines
bounds-picks-lines c = omega (arith, c.head_lines-lines.ensures)

pub overflow_add-nodes : goal.overflow_add-nodes
overflow_add-nodes c = omega (arith, c.head_lines-lines.ensures)

pub offset_bounds-t-lines : goal.offset_bounds-t-lines
offset_bounds-t-lines c = omega (arith, c.head_lines-lines.ensures)

pub offset_bounds-t-j : goal.offset_bounds-t-j
offset_bounds-t-j c = omega (arith, picked.picks_filled c.args.counts c.args.z c.loop-k.k c.loop-k.picks c.requires.2 c.loop-k.invariant.6 (c.head_lines-lines.result + c.loop-i.i) (omega (arith, c.head_lines-lines.ensures)))

pub offset_bounds-nodes-i : goal.offset_bounds-nodes-i
offset_bounds-nodes-i c = omega (arith, c.head_lines-lines.ensures)

pub bounds-nodes-i : goal.bounds-nodes-i
bounds-nodes-i c = omega (arith, c.head_lines-lines.ensures)

pub loop-i-preserved : goal.loop-i-preserved
loop-i-preserved c = (omega arith, rw c.loop-i.invariant.1 (openings.picked_next c.args.t c.loop-k.picks c.args.z c.head_lines-lines.result c.loop-i.i c.head_lines-lines.ensures (omega arith)))

pub no_heads-heads-requires : goal.no_heads-heads-requires
no_heads-heads-requires c = tt

pub loop-h-init : goal.loop-h-init
loop-h-init c = (omega arith, c.no_heads-heads.ensures ∙ tabs.front_none (picked_head c.args.t c.loop-k.picks) no_heads)

pub bounds-picks-h : goal.bounds-picks-h
bounds-picks-h c = omega (arith, c.head_lines-lines.ensures)

pub offset_bounds-t-h : goal.offset_bounds-t-h
offset_bounds-t-h c = omega (arith, c.head_lines-lines.ensures)

pub offset_bounds-t-j-in-loop-h : goal.offset_bounds-t-j-in-loop-h
offset_bounds-t-j-in-loop-h c = omega (arith, picked.picks_filled c.args.counts c.args.z c.loop-k.k c.loop-k.picks c.requires.2 c.loop-k.invariant.6 c.loop-h.h (omega (arith, c.head_lines-lines.ensures)))

pub offset_bounds-heads-h : goal.offset_bounds-heads-h
offset_bounds-heads-h c = omega (arith, c.head_lines-lines.ensures)

pub bounds-heads-h : goal.bounds-heads-h
bounds-heads-h c = omega (arith, c.head_lines-lines.ensures)

pub loop-h-preserved : goal.loop-h-preserved
loop-h-preserved c = (omega arith, rw c.loop-h.invariant.1 (openings.picked_head_lem c.args.t c.loop-k.picks c.loop-h.h (omega (arith, c.head_lines-lines.ensures))))

pub fit_ending-q-requires : goal.fit_ending-q-requires
fit_ending-q-requires c = (omega arith, picked.own_lines c.args.z c.own_threads-held.result c.own_threads-held.ensures c.requires.1, omega arith, omega (arith, written.same_room c.args.b.now c.args.at (lines_on (line_from c.args.t c.args.counts c.args.z) c.args.from (c.loop-k.k - c.args.from)) c.loop-k.invariant.4))

pub returns-then-q-p : goal.returns-then-q-p
returns-then-q-p c =
    let f = line_from c.args.t c.args.counts c.args.z in
    let m = written.same_room c.args.b.now c.args.at (lines_on (line_from c.args.t c.args.counts c.args.z) c.args.from (c.loop-k.k - c.args.from)) c.loop-k.invariant.4 in
    let e = picked.picked_line c.args.t c.args.counts c.args.z c.loop-k.k c.loop-k.picks c.loop-i.nodes c.loop-i.i c.loop-h.heads c.loop-h.h c.own_threads-held.result (omega arith) c.loop-i.invariant.1 (omega (arith, c.head_lines-lines.ensures)) c.loop-h.invariant.1 c.own_threads-held.ensures c.loop-k.invariant.6 in
    let l = laws.put_left c.loop-k.b c.loop-k.p (length c.loop-k.b - c.loop-k.p) _ (c.fit_ending-q.ensures.place, c.fit_ending-q.ensures.bytes) c.if-q-p.true (picked.line_some c.loop-k.k _) in
    let h : length (f c.loop-k.k) ≤ 731 = omega (arith, c.fit_ending-q.ensures.short, ap length e) in record { next = omega (arith, c.loop-k.invariant.5, laws.fit_full f c.loop-k.k c.args.to (length c.args.b.now - c.loop-k.p) (omega arith) (omega (arith, l.0, m, ap length e))); place = c.loop-k.invariant.3; bytes = l.1 ∙ c.loop-k.invariant.4; short = λ q. picked.first_known (λ j. length (f j) ≤ 731) c.args.from c.loop-k.k c.loop-k.invariant.7 (omega arith) h (omega arith) }

pub turned-next-requires : goal.turned-next-requires
turned-next-requires c = (c.requires.0, c.requires.1, c.requires.2.0)

pub loop-k-preserved : goal.loop-k-preserved
loop-k-preserved c =
    let f = line_from c.args.t c.args.counts c.args.z in
    let m = written.same_room c.args.b.now c.args.at (lines_on (line_from c.args.t c.args.counts c.args.z) c.args.from (c.loop-k.k - c.args.from)) c.loop-k.invariant.4 in
    let e = picked.picked_line c.args.t c.args.counts c.args.z c.loop-k.k c.loop-k.picks c.loop-i.nodes c.loop-i.i c.loop-h.heads c.loop-h.h c.own_threads-held.result (omega arith) c.loop-i.invariant.1 (omega (arith, c.head_lines-lines.ensures)) c.loop-h.invariant.1 c.own_threads-held.ensures c.loop-k.invariant.6 in
    let l = laws.put_taken c.loop-k.b c.loop-k.p (length c.loop-k.b - c.loop-k.p) _ (c.fit_ending-q.ensures.place, c.fit_ending-q.ensures.bytes) c.if-q-p.false in
    let y = subst (λ s. written.Put c.loop-k.b c.loop-k.p s c.fit_ending-q.new.b c.fit_ending-q.result) e l.1 in
    let s = laws.on_put f c.args.from c.loop-k.k c.args.b.now c.args.at (omega arith) (c.loop-k.invariant.3, c.loop-k.invariant.4) y in
    let h : length (f c.loop-k.k) ≤ length c.args.b.now - c.loop-k.p = omega (arith, l.0, m, ap length e) in
    let r : length c.args.b.now - c.loop-k.p - length (f c.loop-k.k) ≡ length c.args.b.now - c.fit_ending-q.result = omega (arith, y.0) in (
      omega arith,
      omega arith,
      omega (arith, h, y.0),
      s.0,
      s.1,
      c.loop-k.invariant.5 ∙ laws.fit_next f c.loop-k.k c.args.to (length c.args.b.now - c.loop-k.p) (omega arith) h ∙ ap (λ x. c.loop-k.k + 1 + fitting f (c.loop-k.k + 1) (c.args.to - (c.loop-k.k + 1)) x) r,
      c.turned-next.ensures ∙ ap (turned_of c.args.counts (line_count c.args.z)) c.loop-k.invariant.6 ∙ turns.turn_picks c.args.counts c.args.z c.loop-k.k c.requires.2.0,
      picked.first_known (λ j. length (f j) ≤ 731) c.args.from c.loop-k.k c.loop-k.invariant.7 (omega arith) (omega (arith, c.fit_ending-q.ensures.short, ap length e)),
    )

pub returns : goal.returns
returns c =
    let f = line_from c.args.t c.args.counts c.args.z in
    let e : c.loop-k.k ≡ c.args.to = omega arith in
    let l = laws.fit_end f c.loop-k.k c.args.to (length c.args.b.now - c.loop-k.p) (omega arith) in
    record {
      next = omega (arith, c.loop-k.invariant.5, l, e);
      place = c.loop-k.invariant.3 ∙ ap (λ k. c.args.at + length (lines_on f c.args.from (k - c.args.from))) e;
      bytes = c.loop-k.invariant.4 ∙ ap (λ k. over c.args.b.now c.args.at (lines_on f c.args.from (k - c.args.from))) e;
      short = λ q. c.loop-k.invariant.7 (omega arith);
    }

pub bounds-t-j : goal.bounds-t-j
bounds-t-j c = picked.picks_filled c.args.counts c.args.z c.loop-k.k c.loop-k.picks c.requires.2 c.loop-k.invariant.6 (c.head_lines-lines.result + c.loop-i.i) (omega (arith, c.head_lines-lines.ensures))

pub bounds-t-j-in-loop-h : goal.bounds-t-j-in-loop-h
bounds-t-j-in-loop-h c = picked.picks_filled c.args.counts c.args.z c.loop-k.k c.loop-k.picks c.requires.2 c.loop-k.invariant.6 c.loop-h.h (omega (arith, c.head_lines-lines.ensures))

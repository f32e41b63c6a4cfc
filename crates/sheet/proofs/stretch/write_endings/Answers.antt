use native.Mathlib.Omega.{arith}
use Prim.Native.Nat.{ℕ, ◌+◌, ◌-◌, ◌≤◌}
use mathlib.Core.Path.{◌≡◌, refl, sym, ap, subst, ◌∙◌}
use lib.ListN.{length, take}
use Rattle.lists.specs.Tab.{over}
use Rattle.lists.specs.Text.{decimal}
use Rattle.machine.specs.Line.{line_count}
use Rattle.page.specs.Filled.{lines_on, fitting}
use Rattle.printing.proofs.Fittings as fits
use Rattle.printing.proofs.Written as written
use Rattle.sheet.specs.Told.{head_mark}
use Rattle.sheet.specs.Sheet.{line_told}
use mathlib.Core.List.{List, ◌++◌}
use Rattle.sheet.proofs.StepLaws as steps
use Rattle.sheet.proofs.stretch.write_endings.Goals as goal

pub ending_picks-picks-requires : goal.ending_picks-picks-requires
ending_picks-picks-requires c = let p = c.requires.n_bound in (p.0, omega (arith, p.1), p.2.0)

pub slice_bounds-tell_anew-end : goal.slice_bounds-tell_anew-end
slice_bounds-tell_anew-end c = refl

pub slice_bounds-tell_anew-end-2 : goal.slice_bounds-tell_anew-end-2
slice_bounds-tell_anew-end-2 c = refl

pub tell_anew-len-requires : goal.tell_anew-len-requires
tell_anew-len-requires c = (omega arith, λ p l. omega (arith, c.requires.count_bound.1 p l, c.requires.n_bound.1), refl, refl)

pub loop-k-init : goal.loop-k-init
loop-k-init c =
    let s = fits.on_start (line_told c.args.ranks.now c.args.items.now c.args.slots.now c.args.count c.args.counts c.args.z) c.args.from c.args.b.now c.args.at in
    (omega arith, omega arith, omega arith, s.0, s.1, refl, c.ending_picks-picks.ensures, c.tell_anew-len.ensures.told, c.tell_anew-len.ensures.line.0, c.tell_anew-len.ensures.line.1, c.tell_anew-len.auto.end, c.tell_anew-len.auto.ends)

pub slice_bounds-fit_line-end : goal.slice_bounds-fit_line-end
slice_bounds-fit_line-end c = sym c.loop-k.invariant.10

pub fit_line-q-requires : goal.fit_line-q-requires
fit_line-q-requires c = (omega arith, omega (arith, written.same_room c.args.b.now c.args.at (lines_on (line_told c.args.ranks.now c.args.items.now c.args.slots.now c.args.count c.args.counts c.args.z) c.args.from (c.loop-k.k - c.args.from)) c.loop-k.invariant.4), omega (arith, c.loop-k.invariant.10), omega arith)

pub returns-then-q-p : goal.returns-then-q-p
returns-then-q-p c =
    let f = line_told c.args.ranks.now c.args.items.now c.args.slots.now c.args.count c.args.counts c.args.z in
    let m = written.same_room c.args.b.now c.args.at (lines_on f c.args.from (c.loop-k.k - c.args.from)) c.loop-k.invariant.4 in
    let s = take c.loop-k.len c.loop-k.end in
    let e = steps.line_is c.args.ranks.now c.args.items.now c.args.slots.now c.args.count c.args.counts c.args.z c.loop-k.k c.loop-k.picks s c.loop-k.invariant.6 c.loop-k.invariant.9 in
    let l = fits.put_left c.loop-k.b c.loop-k.p (length c.loop-k.b - c.loop-k.p) (decimal c.loop-k.k ++ s) (c.fit_line-q.ensures.place, c.fit_line-q.ensures.bytes) c.if-q-p.true (steps.told_some c.args.ranks.now c.args.items.now c.args.slots.now c.loop-k.picks (head_mark c.args.ranks.now c.loop-k.picks) c.args.count (decimal c.loop-k.k) s c.loop-k.invariant.9) in record { next = omega (arith, c.loop-k.invariant.5, fits.fit_full f c.loop-k.k c.args.to (length c.args.b.now - c.loop-k.p) (omega arith) (omega (arith, l.0, m, ap length e))); place = c.loop-k.invariant.3; bytes = l.1 ∙ c.loop-k.invariant.4 }

pub turn-i-requires : goal.turn-i-requires
turn-i-requires c = let p = c.requires.n_bound in (omega (arith, p.0), λ l h. p.2.0 l (omega (arith, p.1)))

pub slice_bounds-tell_on-end : goal.slice_bounds-tell_on-end
slice_bounds-tell_on-end c = sym c.loop-k.invariant.10

pub slice_bounds-tell_on-end-in-loop-k : goal.slice_bounds-tell_on-end-in-loop-k
slice_bounds-tell_on-end-in-loop-k c = sym c.loop-k.invariant.11

pub tell_on-len-requires : goal.tell_on-len-requires
tell_on-len-requires c = let e : c.args.z.n + 1 ≡ line_count c.args.z = omega (arith, c.requires.n_bound.1) in record { count_bound = (omega arith, λ q l. omega (arith, c.requires.count_bound.1 q l), c.loop-k.invariant.10, c.loop-k.invariant.11, omega (arith, steps.turn_in c.args.counts c.args.z c.requires.n_bound.1 c.loop-k.k (c.args.z.n + 1) c.loop-k.picks c.requires.n_bound.2 e c.loop-k.invariant.6 c.turn-i.result c.turn-i.ensures.line)); i_bound = λ y. steps.step_told c.args.counts c.args.z c.requires.n_bound.1 c.loop-k.k (c.args.z.n + 1) c.loop-k.picks c.requires.n_bound.2 e c.loop-k.invariant.6 c.args.ranks.now c.args.items.now c.args.slots.now c.args.starts.now c.args.count c.loop-k.end c.loop-k.ends c.turn-i.new.picks c.turn-i.result c.turn-i.ensures.line c.turn-i.ensures.picks c.requires.count_bound.2 c.requires.count_bound.1 c.loop-k.invariant.7 y }

pub loop-k-preserved : goal.loop-k-preserved
loop-k-preserved c =
    let i = c.loop-k-test.true in
    let f = line_told c.args.ranks.now c.args.items.now c.args.slots.now c.args.count c.args.counts c.args.z in
    let n : c.args.z.n + 1 ≡ line_count c.args.z = omega (arith, c.requires.n_bound.1) in
    let m = written.same_room c.args.b.now c.args.at (lines_on f c.args.from (c.loop-k.k - c.args.from)) c.loop-k.invariant.4 in
    let s = take c.loop-k.len c.loop-k.end in
    let e = steps.line_is c.args.ranks.now c.args.items.now c.args.slots.now c.args.count c.args.counts c.args.z c.loop-k.k c.loop-k.picks s c.loop-k.invariant.6 c.loop-k.invariant.9 in
    let l = fits.put_taken c.loop-k.b c.loop-k.p (length c.loop-k.b - c.loop-k.p) (decimal c.loop-k.k ++ s) (c.fit_line-q.ensures.place, c.fit_line-q.ensures.bytes) c.if-q-p.false in
    let y = subst (λ (x : List ℕ). written.Put c.loop-k.b c.loop-k.p x c.fit_line-q.new.b c.fit_line-q.result) e l.1 in
    let o = fits.on_put f c.args.from c.loop-k.k c.args.b.now c.args.at c.loop-k.invariant.0 (c.loop-k.invariant.3, c.loop-k.invariant.4) y in
    let h : length (f c.loop-k.k) ≤ length c.args.b.now - c.loop-k.p = omega (arith, l.0, m, ap length e) in
    let r : length c.args.b.now - c.loop-k.p - length (f c.loop-k.k) ≡ length c.args.b.now - c.fit_line-q.result = omega (arith, y.0) in (
      omega (arith, c.loop-k.invariant.0),
      omega (arith, i),
      omega (arith, h, y.0, c.loop-k.invariant.2),
      o.0,
      o.1,
      c.loop-k.invariant.5 ∙ fits.fit_next f c.loop-k.k c.args.to (length c.args.b.now - c.loop-k.p) i h ∙ ap (λ (x : ℕ). c.loop-k.k + 1 + fitting f (c.loop-k.k + 1) (c.args.to - (c.loop-k.k + 1)) x) r,
      steps.next_picks c.args.counts c.args.z c.requires.n_bound.1 c.loop-k.k (c.args.z.n + 1) c.loop-k.picks c.requires.n_bound.2 n c.loop-k.invariant.6 c.turn-i.new.picks c.turn-i.ensures.picks,
      c.tell_on-len.ensures.told,
      c.tell_on-len.ensures.line.0,
      c.tell_on-len.ensures.line.1,
      c.tell_on-len.auto.end ∙ c.loop-k.invariant.10,
      c.tell_on-len.auto.ends ∙ c.loop-k.invariant.11,
    )

pub returns : goal.returns
returns c =
    let f = line_told c.args.ranks.now c.args.items.now c.args.slots.now c.args.count c.args.counts c.args.z in
    let e : c.loop-k.k ≡ c.args.to = omega arith in
    let l = fits.fit_end f c.loop-k.k c.args.to (length c.args.b.now - c.loop-k.p) (omega arith) in
    record {
      next = omega (arith, c.loop-k.invariant.5, l, e);
      place = c.loop-k.invariant.3 ∙ ap (λ k. c.args.at + length (lines_on f c.args.from (k - c.args.from))) e;
      bytes = c.loop-k.invariant.4 ∙ ap (λ k. over c.args.b.now c.args.at (lines_on f c.args.from (k - c.args.from))) e;
    }

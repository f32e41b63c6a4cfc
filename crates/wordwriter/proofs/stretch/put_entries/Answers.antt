use native.Mathlib.Omega.{arith}
use mathlib.Core.Path.{◌≡◌, ap, subst, ◌∙◌}
use Prim.Native.Nat.{◌+◌, ◌-◌, ◌≤◌}
use lib.ListN.{length}
use borrow.Author.Rules.{rules}
use Rattle.lists.specs.Tab.{over}
use Rattle.page.specs.Filled.{lines_on, fitting}
use Rattle.printing.proofs.Written as laws
use Rattle.printing.proofs.Fittings as fits
use Rattle.spelling.specs.Writing.{entry_of}
use Rattle.wordwriter.proofs.stretch.put_entries.Goals as goal

pub loop-k-init : goal.loop-k-init
loop-k-init c =
    let f = entry_of c.args.s.now in
    let o = fits.on_start f c.args.from c.args.b.now 0 in
    let z : length c.args.b.now ≡ length c.args.b.now - 0 = omega arith in
    (omega arith, o.0, o.1, ap (λ n. c.args.from + fitting f c.args.from (c.args.to - c.args.from) n) z)

pub put_entry-n-requires : goal.put_entry-n-requires
put_entry-n-requires c = let q = c.requires in (q.0, q.1, omega (arith, q.2), search rules)

pub overflow_sub-b : goal.overflow_sub-b
overflow_sub-b c =
    let f = entry_of c.args.s.now in
    let m = laws.same_room c.args.b.now 0 (lines_on f c.args.from (c.loop-k.k - c.args.from)) c.loop-k.invariant.2 in
    omega (arith, m)

pub returns-then-b-p : goal.returns-then-b-p
returns-then-b-p c =
    let f = entry_of c.args.s.now in
    let m = laws.same_room c.args.b.now 0 (lines_on f c.args.from (c.loop-k.k - c.args.from)) c.loop-k.invariant.2 in
    let q = fits.fit_full f c.loop-k.k c.args.to (length c.args.b.now - c.loop-k.p) (omega arith) (omega (arith, c.put_entry-n.ensures.put.0, c.if-b-p.true, m)) in record { next = omega (arith, c.loop-k.invariant.3, q); place = omega (arith, c.loop-k.invariant.1); bytes = c.loop-k.invariant.2; within = (omega arith, omega arith) }

pub slice_bounds-line-end : goal.slice_bounds-line-end
slice_bounds-line-end c = omega (arith, c.put_entry-n.ensures.room)

pub slice_bounds-put-end : goal.slice_bounds-put-end
slice_bounds-put-end c =
    let f = entry_of c.args.s.now in
    let m = laws.same_room c.args.b.now 0 (lines_on f c.args.from (c.loop-k.k - c.args.from)) c.loop-k.invariant.2 in
    let g = laws.front_is _ c.put_entry-n.result c.put_entry-n.new.b (f c.loop-k.k) (omega (arith, c.put_entry-n.ensures.put.0, c.put_entry-n.ensures.room)) (omega (arith, c.put_entry-n.ensures.put.0)) c.put_entry-n.ensures.put.1 in
    omega (arith, ap length g, c.put_entry-n.ensures.put.0)

pub put-p-requires : goal.put-p-requires
put-p-requires c =
    let f = entry_of c.args.s.now in
    let m = laws.same_room c.args.b.now 0 (lines_on f c.args.from (c.loop-k.k - c.args.from)) c.loop-k.invariant.2 in
    let g = laws.front_is _ c.put_entry-n.result c.put_entry-n.new.b (f c.loop-k.k) (omega (arith, c.put_entry-n.ensures.put.0, c.put_entry-n.ensures.room)) (omega (arith, c.put_entry-n.ensures.put.0)) c.put_entry-n.ensures.put.1 in
    omega (arith, ap length g, c.put_entry-n.ensures.put.0, c.if-b-p.false, m)

pub loop-k-preserved : goal.loop-k-preserved
loop-k-preserved c =
    let f = entry_of c.args.s.now in
    let m = laws.same_room c.args.b.now 0 (lines_on f c.args.from (c.loop-k.k - c.args.from)) c.loop-k.invariant.2 in
    let g = laws.front_is _ c.put_entry-n.result c.put_entry-n.new.b (f c.loop-k.k) (omega (arith, c.put_entry-n.ensures.put.0, c.put_entry-n.ensures.room)) (omega (arith, c.put_entry-n.ensures.put.0)) c.put_entry-n.ensures.put.1 in
    let y = subst (λ l. laws.Put c.loop-k.b c.loop-k.p l c.put-p.new.b c.put-p.result) g c.put-p.ensures in
    let o = fits.on_put f c.args.from c.loop-k.k c.args.b.now 0 (omega arith) (c.loop-k.invariant.1, c.loop-k.invariant.2) y in
    let h : length (f c.loop-k.k) ≤ length c.args.b.now - c.loop-k.p = omega (arith, c.put_entry-n.ensures.put.0, c.if-b-p.false, m) in
    let r : length c.args.b.now - c.loop-k.p - length (f c.loop-k.k) ≡ length c.args.b.now - c.put-p.result = omega (arith, y.0) in (
      omega (arith, h, y.0),
      o.0,
      o.1,
      c.loop-k.invariant.3 ∙ fits.fit_next f c.loop-k.k c.args.to (length c.args.b.now - c.loop-k.p) (omega arith) h ∙ ap (λ x. c.loop-k.k + 1 + fitting f (c.loop-k.k + 1) (c.args.to - (c.loop-k.k + 1)) x) r,
    )

pub returns : goal.returns
returns c =
    let f = entry_of c.args.s.now in
    let e : c.loop-k.k ≡ c.args.to = omega arith in
    let m = laws.same_room c.args.b.now 0 (lines_on f c.args.from (c.loop-k.k - c.args.from)) c.loop-k.invariant.2 in
    let q = fits.fit_end f c.loop-k.k c.args.to (length c.args.b.now - c.loop-k.p) (omega arith) in
    record {
      next = omega (arith, c.loop-k.invariant.3, q);
      place = omega (arith, c.loop-k.invariant.1, ap (λ n. length (lines_on f c.args.from (n - c.args.from))) e);
      bytes = c.loop-k.invariant.2 ∙ ap (λ n. over c.args.b.now 0 (lines_on f c.args.from (n - c.args.from))) e;
      within = (omega arith, omega arith);
    }

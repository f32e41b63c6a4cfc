use Prim.Native.Nat.{◌≤◌, ◌<◌}
use mathlib.Core.Path.{◌≡◌, refl, sym, ap, subst, ◌∙◌}
use mathlib.Core.Bool.{true}
use native.Mathlib.Omega.{arith}
use lib.ListN.{length}
use Rattle.lists.specs.Tab.{over}
use Rattle.answer.specs.Answers.{told, accepted}
use Rattle.answer.proofs.Results.{came_back, passed_on}
use Rattle.image.specs.Form.{known, head_lines, image_size}
use Rattle.image.specs.Layout.{image_shape, image_bytes}
use Rattle.image.specs.declared.Image.{Image}
use Rattle.image.specs.declared.Shape.{Shape}
use Rattle.machine.specs.Line.{shape_of}
use Rattle.page.specs.Refusals.{ending_count, ending_in}
use Rattle.runs.proofs.PageLaws as laws
use Rattle.pages.proofs.OwnLaws as own
use Rattle.pages.proofs.calls.ending_of.Goals as goal

pub returns-in_err-r : goal.returns-in_err-r
returns-in_err-r c =
    let s = c.args.s.now in
    let k = c.args.k in
    let g = came_back refl (sym c.in_err-r.ensures) in
    let e = laws.ending_refused s k (length c.args.b.now) g in
    record {
      answers = ap told (passed_on _ _ c.from_residual.ensures.1 ∙ c.in_err-r.ensures ∙ e);
      bytes = laws.same_bytes s k c.args.b.now (ap accepted (sym e) ∙ g);
    }

pub lines_of-requires : goal.lines_of-requires
lines_of-requires c = rw c.shape-z.ensures (laws.page_small c.args.s.now c.in_ok-r.r c.in_ok-r.ensures).1

pub ending_count-count-requires : goal.ending_count-count-requires
ending_count-count-requires c =
    let n = laws.page_small c.args.s.now c.in_ok-r.r c.in_ok-r.ensures in
    rw (c.lines_of.ensures, c.shape-z.ensures, c.counts_of-counts.ensures) (omega (arith, n.0, n.1), laws.page_counted c.args.s.now c.in_ok-r.r c.in_ok-r.ensures)

pub returns-then-count-k : goal.returns-then-count-k
returns-then-count-k c =
    let s = c.args.s.now in
    let r = c.in_ok-r.r in
    let p = c.in_ok-r.ensures in
    let n : c.ending_count-count.result ≡ ending_count s = rw (c.lines_of.ensures, c.shape-z.ensures, c.counts_of-counts.ensures) at c.ending_count-count.ensures ∙ laws.page_count s r p in
    let e = laws.ending_none s r p c.args.k (length c.args.b.now) (omega (arith, n)) in record { answers = ap told e; bytes = laws.same_bytes s c.args.k c.args.b.now (ap accepted (sym e)) }

pub size_of-requires : goal.size_of-requires
size_of-requires c = rw c.shape-z.ensures (laws.page_form c.args.s.now c.in_ok-r.r c.in_ok-r.ensures)

pub returns-then-b-size_of : goal.returns-then-b-size_of
returns-then-b-size_of c =
    let s = c.args.s.now in
    let r = c.in_ok-r.r in
    let p = c.in_ok-r.ensures in
    let n : c.ending_count-count.result ≡ ending_count s = rw (c.lines_of.ensures, c.shape-z.ensures, c.counts_of-counts.ensures) at c.ending_count-count.ensures ∙ laws.page_count s r p in
    let z = rw c.shape-z.ensures at c.size_of.ensures in
    let e = laws.ending_room s r p c.args.k (length c.args.b.now) (omega (arith, n)) (omega (arith, c.if-b-size_of.true, z)) in
    record { answers = ap told e; bytes = laws.same_bytes s c.args.k c.args.b.now (ap accepted (sym e)) }

pub ending_picks-picks-requires : goal.ending_picks-picks-requires
ending_picks-picks-requires c =
    let n = laws.page_small c.args.s.now c.in_ok-r.r c.in_ok-r.ensures in
    rw (c.shape-z.ensures, c.counts_of-counts.ensures) (n.0, n.1, (laws.page_ready c.args.s.now c.in_ok-r.r c.in_ok-r.ensures).0)

pub picked-g-requires : goal.picked-g-requires
picked-g-requires c =
    let n = laws.page_small c.args.s.now c.in_ok-r.r c.in_ok-r.ensures in
    rw (c.ending_picks-picks.ensures, c.shape-z.ensures, c.counts_of-counts.ensures) (n.0, n.1, laws.page_filled c.args.s.now c.in_ok-r.r c.in_ok-r.ensures c.args.k)

pub put_image-requires : goal.put_image-requires
put_image-requires c =
    let r = c.in_ok-r.r in
    let n = laws.page_small c.args.s.now r c.in_ok-r.ensures in
    let y : Shape = shape_of r.machine in
    let e : image_shape c.picked-g.result ≡ own.owned y = ap image_shape (rw c.shape-z.ensures at c.picked-g.ensures) ∙ laws.picked_shape _ _ y in
    let l = c.if-b-size_of.false in
    let z = rw c.shape-z.ensures at c.size_of.ensures in
    subst (λ (x : Shape). (known x.form ≡ true) × ((x.n ≤ 64) × ((head_lines x ≤ 8) × (image_size x ≤ length c.args.b.now)))) (sym e)
    (laws.page_form c.args.s.now r c.in_ok-r.ensures, (n.0, (omega (arith, n.1, own.own_lines y), omega (arith, l, z, own.own_size y))))

pub returns : goal.returns
returns c =
    let s = c.args.s.now in
    let r = c.in_ok-r.r in
    let p = c.in_ok-r.ensures in
    let n : c.ending_count-count.result ≡ ending_count s = rw (c.lines_of.ensures, c.shape-z.ensures, c.counts_of-counts.ensures) at c.ending_count-count.ensures ∙ laws.page_count s r p in
    let lt : c.args.k < ending_count s = omega (arith, n, c.if-count-k.false) in
    let z = rw c.shape-z.ensures at c.size_of.ensures in
    let e = laws.ending_taken s r p c.args.k (length c.args.b.now) lt (omega (arith, c.if-b-size_of.false, z)) in
    let g : c.picked-g.result ≡ ending_in s c.args.k = rw (c.ending_picks-picks.ensures, c.shape-z.ensures, c.counts_of-counts.ensures) at c.picked-g.ensures ∙ laws.page_ending s r p c.args.k lt in
    record { answers = ap told e; bytes = c.put_image.ensures ∙ ap (λ (x : Image). over c.args.b.now 0 (image_bytes x)) g ∙ laws.ending_bytes s c.args.k c.args.b.now (ap accepted (sym e)) }

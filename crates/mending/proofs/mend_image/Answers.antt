use Prim.Native.Nat.{◌≤◌}
use mathlib.Core.Bool.{true}
use mathlib.Core.Path.{◌≡◌, refl, sym, ap, subst, ◌∙◌}
use native.Mathlib.Omega.{arith}
use lib.ListN.{length}
use Rattle.std.specs.Prelude.{Ok}
use Rattle.lists.specs.Tab.{over}
use Rattle.answer.specs.Answers.{accepted, Taken}
use Rattle.answer.proofs.Results.{went_on, came_back, passed_on}
use Rattle.answer.specs.declared.Refusal.TheVariants as why
use Rattle.image.specs.Layout.{image_in, image_bytes}
use Rattle.image.specs.declared.Image.{Image}
use Rattle.codec.specs.Parts.{Lies}
use Rattle.codec.proofs.Accepted as acc
use Rattle.codec.proofs.Lying.{nodes_in_lem}
use Rattle.mending.specs.Bytes.{mend_bytes, mend_list, mend_changed, mend_shape}
use Rattle.mending.proofs.Answers as laws
use Rattle.mending.proofs.Turns as turns
use Rattle.mending.proofs.mend_image.Goals as goal
use Rattle.mending.proofs.mend_image.Goals.{After-shape_in-z, After-changed-count, In_ok-shape_at}

-- 1, 2, 3, 1 are passed
passed : (c : In_ok-shape_at) → accepted (mend_shape c.args.s.now Taken) ≡ true
passed c = went_on c.shape_at.ensures c.in_ok-shape_at.was

-- the image lies in the bytes, in the shape that was found
lies : (c : After-shape_in-z) → Lies c.args.s.now c.shape_in-z.result
lies c = subst (Lies _) (sym c.shape_in-z.ensures) (acc.shape_lies 0 0 _ (laws.mendshape_is _ (passed (goal.at-After-shape_in-z c).In_ok-shape_at)))

pub returns-in_err-shape_at : goal.returns-in_err-shape_at
returns-in_err-shape_at c =
    let s = c.args.s.now in
    let h = came_back c.shape_at.ensures c.in_err-shape_at.was in
    let e = laws.mend_misshapen s (length c.args.b.now) (length c.args.l.now) h ∙ sym c.shape_at.ensures ∙ c.in_err-shape_at.was in
    let t = laws.given_refused s c.args.b.now c.args.l.now c.from_residual.result _ (passed_on _ _ c.from_residual.ensures.1) e in
    record { counts = t.0; image = t.1.0; list = t.1.1 }

pub returns-then-b-s : goal.returns-then-b-s
returns-then-b-s c =
    let s = c.args.s.now in
    let e = laws.mend_short s (length c.args.b.now) (length c.args.l.now) (passed (goal.at.returns-then-b-s c).In_ok-shape_at) c.if-b-s.true in
    let t = laws.given_refused s c.args.b.now c.args.l.now _ why.Room refl e in
    record { counts = t.0; image = t.1.0; list = t.1.1 }

pub shape_in-z-requires : goal.shape_in-z-requires
shape_in-z-requires c = omega (arith, (acc.shape_taken 0 0 c.args.s.now (laws.mendshape_is c.args.s.now (passed (goal.at.shape_in-z-requires c).In_ok-shape_at))).long)

pub invariant_of-lying : goal.invariant_of-lying
invariant_of-lying c = record { lies = lies (goal.at.invariant_of-lying c).After-shape_in-z }

-- as many are counted as are changed, at most 64
counted : (c : After-changed-count) → c.changed-count.result ≡ mend_changed c.args.s.now
unfolding mend_changed image_in
counted c = c.changed-count.ensures

few : (c : After-changed-count) → c.changed-count.result ≤ 64
few c =
    let l = lies (goal.at-After-changed-count c).After-shape_in-z in
    omega (arith, c.changed-count.ensures, turns.changed_le (image_in c.args.s.now) (image_in c.args.s.now).n, nodes_in_lem _ _ l, l.nodes)

pub overflow_mul-count : goal.overflow_mul-count
overflow_mul-count c = omega (arith, few (goal.at.overflow_mul-count c).After-changed-count)

pub returns-then-l-count : goal.returns-then-l-count
returns-then-l-count c =
    let s = c.args.s.now in
    let n = counted (goal.at.returns-then-l-count c).After-changed-count in
    let e = laws.mend_unlisted s (length c.args.b.now) (length c.args.l.now) (passed (goal.at.returns-then-l-count c).In_ok-shape_at) c.if-b-s.false (omega (arith, n, c.if-l-count.true)) in
    let t = laws.given_refused s c.args.b.now c.args.l.now _ why.Room refl e in
    record { counts = t.0; image = t.1.0; list = t.1.1 }

pub put_image-requires : goal.put_image-requires
put_image-requires c = rw c.mended-g.ensures (laws.put_fits c.args.s.now (length c.args.b.now) (passed (goal.at.put_image-requires c).In_ok-shape_at) c.if-b-s.false)

pub put_changes-requires : goal.put_changes-requires
put_changes-requires c =
    let g = image_in c.args.s.now in
    omega (arith, turns.changes_length g g.n, c.changed-count.ensures, c.if-l-count.false)

pub overflow_cast-result : goal.overflow_cast-result
overflow_cast-result c = omega (arith, few (goal.at.overflow_cast-result c).After-changed-count)

pub returns : goal.returns
unfolding mend_bytes mend_list image_in
returns c =
    let s = c.args.s.now in
    let n = counted (goal.at.returns c).After-changed-count in
    let t = laws.given_taken s c.args.b.now c.args.l.now (laws.mend_taken s (length c.args.b.now) (length c.args.l.now) (passed (goal.at.returns c).In_ok-shape_at) c.if-b-s.false (omega (arith, n, c.if-l-count.false))) in
    let w = c.put_image.ensures ∙ ap (λ (g : Image). over c.args.b.now 0 (image_bytes g)) c.mended-g.ensures in
    record { counts = ap Ok n ∙ t.0; image = w ∙ t.1.0; list = c.put_changes.ensures ∙ t.1.1 }

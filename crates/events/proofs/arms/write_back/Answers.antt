use Prim.Native.Nat.{ℕ, ◌≤◌, ◌<◌}
use mathlib.Core.Path.{◌≡◌, refl, sym, ap, subst, ◌∙◌}
use mathlib.Core.Bool.{Bool, true, false}
use native.Mathlib.Omega.{arith}
use borrow.Author.Tests.{eq-eqb, ne_eqb, le-leb, lt-leb}
use Rattle.answer.specs.Answers.{Taken, Number, NotZero, Clean}
use Rattle.image.specs.Form.{head_lines}
use Rattle.image.proofs.HeadLaws.{lines_few}
use Rattle.machine.specs.Line.{shape_of, line_count, line_at}
use Rattle.machine.specs.Event.{writes_back, clean}
use Rattle.machine.specs.Range.{in_range}
use Rattle.machine.specs.declared.Line.{Line}
use Rattle.machine.specs.declared.Machine.{Machine}
use Rattle.machine.proofs.LineLaws.{line_in}
use Rattle.hands.specs.Places.{HasPlace}
use Rattle.hands.proofs.HandLaws.{place_in}
use Rattle.events.proofs.ByAnswer as by
use Rattle.range.proofs.InRange as range
use Rattle.events.proofs.arms.write_back.Goals as goal

-- eight head lines at most
few : (m : Machine) → in_range m ≡ true → head_lines (shape_of m) ≤ 8
few m h = lines_few (shape_of m) (range.in_range_lem m h).sizes.threads_high

-- a line that there is has its place in the tables
there : (m : Machine) (l : Line) (x : ℕ) → in_range m ≡ true → x < line_count (shape_of m) → l ≡ line_at (shape_of m) x → HasPlace l
there m l x h i e = subst HasPlace (sym e) (place_in (shape_of m) (line_at (shape_of m) x) (range.in_range_lem m h).sizes.nodes_high (few m h) (line_in (shape_of m) x i))

-- what the test for 19 gave
tested : (m : Machine) (l l' : Line) (r b : Bool) → r ≡ clean m l → l ≡ l' → r ≡ b → clean m l' ≡ b
tested m l l' r b e f g = sym (ap (clean m) f) ∙ sym e ∙ g

pub overflow_add-lines : goal.overflow_add-lines
overflow_add-lines c =
    let e : c.head_lines.result ≡ head_lines (shape_of c.args.m) = c.head_lines.ensures in
    omega (arith, e, few c.args.m c.requires, (range.in_range_lem _ c.requires).sizes.nodes_high)

pub returns-then-lines-e : goal.returns-then-lines-e
returns-then-lines-e c =
    let e : c.head_lines.result ≡ head_lines (shape_of c.args.m) = c.head_lines.ensures in
    let high = le-leb (line_count (shape_of c.args.m)) c.args.e.number (omega (arith, e, c.if-lines-e.true)) in
    c.quiet.ensures ∙ by.refused_by c.args.p c.args.m c.args.e writes_back (Number c.args.p) (rw high) refl

pub returns-then-e-ne0 : goal.returns-then-e-ne0
returns-then-e-ne0 c =
    let e : c.head_lines.result ≡ head_lines (shape_of c.args.m) = c.head_lines.ensures in
    let low = lt-leb (line_count (shape_of c.args.m)) c.args.e.number (omega (arith, e, c.if-lines-e.false)) in
    c.quiet-then-e-ne0.ensures ∙ by.refused_by c.args.p c.args.m c.args.e writes_back (NotZero c.args.p) (rw (low, ne_eqb _ _ c.if-e-ne0.true)) refl

pub line_at-line-requires : goal.line_at-line-requires
line_at-line-requires c = omega (arith, few c.args.m c.requires)

pub is_clean-requires : goal.is_clean-requires
is_clean-requires c =
    let e : c.head_lines.result ≡ head_lines (shape_of c.args.m) = c.head_lines.ensures in
    there c.args.m _ c.args.e.number c.requires (omega (arith, e, c.if-lines-e.false)) c.line_at-line.ensures

pub returns-then-is_clean : goal.returns-then-is_clean
returns-then-is_clean c =
    let e : c.head_lines.result ≡ head_lines (shape_of c.args.m) = c.head_lines.ensures in
    let is = tested c.args.m _ (line_at (shape_of c.args.m) c.args.e.number) c.is_clean.result true c.is_clean.ensures c.line_at-line.ensures c.if-is_clean.true in
    let low = lt-leb (line_count (shape_of c.args.m)) c.args.e.number (omega (arith, e, c.if-lines-e.false)) in
    c.quiet-then-is_clean.ensures ∙ by.refused_by c.args.p c.args.m c.args.e writes_back (Clean c.args.p) (rw (low, eq-eqb _ _ c.if-e-ne0.false, is)) refl

pub persist_line-machine-requires : goal.persist_line-machine-requires
persist_line-machine-requires c =
    let e : c.head_lines.result ≡ head_lines (shape_of c.args.m) = c.head_lines.ensures in
    ((range.in_range_lem c.args.m c.requires).sizes.threads_high, there c.args.m _ c.args.e.number c.requires (omega (arith, e, c.if-lines-e.false)) c.line_at-line.ensures)

pub returns : goal.returns
returns c =
    let e : c.head_lines.result ≡ head_lines (shape_of c.args.m) = c.head_lines.ensures in
    let is = tested c.args.m _ (line_at (shape_of c.args.m) c.args.e.number) c.is_clean.result false c.is_clean.ensures c.line_at-line.ensures c.if-is_clean.false in
    let low = lt-leb (line_count (shape_of c.args.m)) c.args.e.number (omega (arith, e, c.if-lines-e.false)) in
    rw (c.persist_line-machine.ensures, c.line_at-line.ensures)
    (by.taken_by c.args.p c.args.m c.args.e writes_back Taken (rw (low, eq-eqb _ _ c.if-e-ne0.false, is)) refl)

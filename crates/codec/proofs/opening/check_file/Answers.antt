use Rattle.image.specs.Refusals.{image_answer}
use lib.ListN.{length, drop, length-drop}
use lib.Seq.{take_all}
use Rattle.image.specs.Bytes.{at1}
use Prim.Native.Nat.{◌*◌, ◌-◌}
use mathlib.Core.Path.{ap, ◌∙◌}
use native.Mathlib.Omega.{arith}
use native.Mathlib.Nat.{mul-le-mul}
use borrow.Author.Tests.{lt-ltb, le-ltb, not-true, not-false}
use Rattle.codec.proofs.opening.check_file.Goals as goal

pub returns-then-s-lt8 : goal.returns-then-s-lt8
returns-then-s-lt8 c = rw (lt-ltb _ _ c.if-s-lt8.true)

pub returns-then-not-is_marked : goal.returns-then-not-is_marked
returns-then-not-is_marked c = rw (le-ltb _ _ c.if-s-lt8.false, ← c.is_marked.ensures, not-true c.is_marked.result c.if-not-is_marked.true-raw)

pub returns-then-not-threads_fit : goal.returns-then-not-threads_fit
returns-then-not-threads_fit c =
    rw (le-ltb _ _ c.if-s-lt8.false, ← c.is_marked.ensures, not-false c.is_marked.result c.if-not-is_marked.false-raw, ← c.threads_fit.ensures, not-true c.threads_fit.result c.if-not-threads_fit.true-raw)

pub returns-then-count-gt-EVENTS : goal.returns-then-count-gt-EVENTS
returns-then-count-gt-EVENTS c =
    rw (
      le-ltb _ _ c.if-s-lt8.false,
      ← c.is_marked.ensures,
      not-false c.is_marked.result c.if-not-is_marked.false-raw,
      ← c.threads_fit.ensures,
      not-false c.threads_fit.result c.if-not-threads_fit.false-raw,
      ← c.half_at-count.ensures,
      lt-ltb _ _ c.if-count-gt-EVENTS.true,
    )

pub overflow_mul-count : goal.overflow_mul-count
overflow_mul-count c = omega (arith, mul-le-mul c.if-count-gt-EVENTS.false c.requires)

pub check_part-requires : goal.check_part-requires
check_part-requires c = omega (arith, mul-le-mul c.if-count-gt-EVENTS.false c.requires)

pub returns : goal.returns
returns c =
    let s = c.args.s.now in
    let w = c.args.w in
    rw (
      le-ltb _ _ c.if-s-lt8.false,
      ← c.is_marked.ensures,
      not-false c.is_marked.result c.if-not-is_marked.false-raw,
      ← c.threads_fit.ensures,
      not-false c.threads_fit.result c.if-not-threads_fit.false-raw,
      ← c.half_at-count.ensures,
      le-ltb _ _ c.if-count-gt-EVENTS.false,
    )
    (c.check_part.ensures ∙ ap (image_answer (at1 s 5) (c.half_at-count.result * w)) (take_all (length s - 8) (drop 8 s) (omega (arith, length-drop 8 s))))

use native.Mathlib.Omega.{arith}
use mathlib.Core.Path.{◌≡◌, sym, ap, ◌∙◌}
use mathlib.Core.Bool.{true, false}
use Prim.Native.Nat.{◌+◌, ◌*◌, ◌≤◌}
use lib.ListN.{length}
use borrow.Author.Rules.{rules as all_rules}
use Rattle.image.specs.Form.{known}
use Rattle.image.specs.declared.Shape.{Shape}
use Rattle.spelling.specs.declared.Survey.{Survey}
use Rattle.spelling.specs.declared.Misread.TheVariants as why
use Rattle.spelling.specs.Lines.{acts_of}
use Rattle.spelling.specs.Layout.{said_shape, events_start, size_of}
use Rattle.spelling.specs.Reading.{put_all, Strange}
use Rattle.desk.proofs.ReadLaws as rules
use Rattle.desk.proofs.read_words.Goals as goal

pub returns-in-Some : goal.returns-in-Some
returns-in-Some c =
    let t = c.args.t.now in
    let e = c.survey_of-s.ensures.survey in
    let whole = rules.gives_none t c.args.b.now c.in-Some.fault (rules.faulty t (length c.args.b.now) c.in-Some.fault (sym (ap (λ (z : Survey). z.fault) e) ∙ c.in-Some.is)) in
    record { answers = whole.0; written = whole.1 }

pub returns-then-not-v : goal.returns-then-not-v
returns-then-not-v c =
    let unbegun : c.survey_of-s.result.survey.begun ≡ false = search all_rules in
    let t = c.args.t.now in
    let e = c.survey_of-s.ensures.survey in
    let q = rules.unbegun t (length c.args.b.now) (sym (ap (λ (z : Survey). z.fault) e) ∙ c.in_default.is) (sym (ap (λ (z : Survey). z.begun) e) ∙ unbegun)
    ∙ ap Strange (sym c.survey_of-s.ensures.last) in
    let whole = rules.gives_none t c.args.b.now (why.Strange c.survey_of-s.result.last) q in
    record { answers = whole.0; written = whole.1 }

pub node_start-from-requires : goal.node_start-from-requires
node_start-from-requires c =
    let k = rules.known_count c.args.t.now _ c.survey_of-s.ensures.survey in
    (ap (λ (g : Shape). known g.form) c.shape_said-g.ensures ∙ k.0, omega arith)

pub overflow_mul-z : goal.overflow_mul-z
overflow_mul-z c = omega (arith, (rules.known_count c.args.t.now _ c.survey_of-s.ensures.survey).1)

pub overflow_add-z : goal.overflow_add-z
overflow_add-z c = omega (arith, (rules.known_count c.args.t.now _ c.survey_of-s.ensures.survey).1, c.node_start-from.ensures.few)

pub returns-then-b-z : goal.returns-then-b-z
returns-then-b-z c =
    let begun : c.survey_of-s.result.survey.begun ≡ true = search all_rules in
    let t = c.args.t.now in
    let e = c.survey_of-s.ensures.survey in
    let f = c.node_start-from.ensures.start ∙ ap (λ (g : Shape). events_start g) c.shape_said-g.ensures in
    let q = rules.no_room t (length c.args.b.now) (sym (ap (λ (z : Survey). z.fault) e) ∙ c.in_default.is) (sym (ap (λ (z : Survey). z.begun) e) ∙ begun)
    (omega (arith, ap size_of e, f, c.if-b-z.true)) in
    let whole = rules.gives_none t c.args.b.now why.Room q in
    record { answers = whole.0; written = whole.1 }

pub put_blank-requires : goal.put_blank-requires
put_blank-requires c =
    let k = rules.known_count c.args.t.now _ c.survey_of-s.ensures.survey in
    let f = c.node_start-from.ensures.start ∙ ap (λ (g : Shape). events_start g) c.shape_said-g.ensures in
    (k.0, k.1, omega (arith, f, c.if-b-z.false))

pub put_text-requires : goal.put_text-requires
put_text-requires c =
    let k = rules.known_count c.args.t.now _ c.survey_of-s.ensures.survey in (
      ap (λ (g : Shape). known g.form) c.shape_said-g.ensures ∙ k.0,
      omega (arith, c.put_blank.auto.b, c.if-b-z.false),
      omega arith,
      omega (arith, k.1, c.node_start-from.ensures.few),
      omega (arith, c.node_start-from.ensures.start),
    )

pub returns : goal.returns
returns c =
    let begun : c.survey_of-s.result.survey.begun ≡ true = search all_rules in
    let t = c.args.t.now in
    let s = c.survey_of-s.result.survey in
    let e = c.survey_of-s.ensures.survey in
    let k = rules.known_count t s e in
    let g = c.shape_said-g.ensures in
    let f = c.node_start-from.ensures.start ∙ ap (λ (g : Shape). events_start g) g in
    let l : size_of s ≤ length c.args.b.now = omega (arith, f, c.if-b-z.false) in
    let p = c.put_text.ensures ∙ ap (λ (g : Shape). put_all g (c.node_start-from.result + s.count * 6) c.put_blank.new.b c.node_start-from.result (acts_of t)) g in
    let q = rules.fits t (length c.args.b.now) (sym (ap (λ (z : Survey). z.fault) e) ∙ c.in_default.is) (sym (ap (λ (z : Survey). z.begun) e) ∙ begun)
    (omega (arith, ap size_of e, l)) in
    let whole = rules.gives_some t c.args.b.now s c.put_text.new.b c.put_blank.new.b e k.0 q l
    c.put_blank.ensures (p ∙ ap (λ f. put_all (said_shape s) (f + s.count * 6) c.put_blank.new.b f (acts_of t)) f) in
    record { answers = rw f whole.0; written = whole.1 }

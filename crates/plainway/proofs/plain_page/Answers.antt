use mathlib.Core.Path.{◌≡◌, refl, sym, ap, ◌∙◌}
use mathlib.Core.Bool.{true}
use mathlib.Core.List.{List}
use native.Mathlib.Omega.{arith}
use lib.ListN.{length}
use Rattle.std.specs.Prelude.{Ok}
use Rattle.lists.specs.Tab.{over}
use Rattle.answer.specs.Answers.{accepted}
use Rattle.answer.proofs.Results.{came_back}
use Rattle.image.specs.declared.Image.{Image}
use Rattle.lawful.specs.Demand3.{Bytes}
use Rattle.plainproof.specs.Plain.{plain_images}
use Rattle.plainway.specs.Plainly.{plain_answer, plain_count, all_bytes}
use Rattle.plainway.specs.Noting.{images_to}
use Rattle.plainway.proofs.NoteLaws as notes
use Rattle.plainway.proofs.WayLaws as ways
use Rattle.plainway.proofs.plain_page.Goals as goal

pub returns-in_err-w-clause-bytes : goal.returns-in_err-w-clause-bytes
returns-in_err-w-clause-bytes c = sym (ways.written_refused c.args.s.now c.args.b.now (came_back refl c.in_err-w.ensures))

pub note_some-count-requires : goal.note_some-count-requires
note_some-count-requires c =
    let s = c.args.s.now in
    let b = c.args.b.now in
    let y : Bytes s = λ j. omega (arith, c.type_inv.s j) in
    let h = ways.page_taken s (length b) c.in_ok-w.ensures.0 in
    (c.in_ok-w.ensures.1, notes.noted_none s y h b c.in_ok-w.ensures.2, omega arith, omega arith)

pub returns : goal.returns
returns c =
    let s = c.args.s.now in
    let b = c.args.b.now in
    let a : accepted (plain_answer s (length b)) ≡ true = c.in_ok-w.ensures.0 in
    let i : images_to s c.in_ok-w.w.runs ≡ plain_images s = ap (images_to s) c.in_ok-w.ensures.1.runs ∙ notes.images_all s in record {
      counts = ap Ok (c.note_some-count.ensures.0.count ∙ ap length i ∙ sym (ways.count_taken s (length b) a)) ∙ sym (ways.given_yes (plain_answer s (length b)) (plain_count s (length b)) a);
      bytes = c.note_some-count.ensures.1 ∙ ap (λ (l : List Image). over b 0 (all_bytes l)) i ∙ sym (ways.written_taken s b a);
    }

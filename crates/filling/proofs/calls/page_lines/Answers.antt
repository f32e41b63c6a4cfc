use Prim.Native.Nat.{ℕ, suc, ◌≤◌}
use mathlib.Core.Path.{◌≡◌, refl, sym, ap, ◌∙◌}
use mathlib.Core.Bool.{true}
use mathlib.Core.List.{List}
use native.Mathlib.Omega.{arith}
use Rattle.lists.proofs.BoolLaws.{false_true}
use lib.ListN.{length}
use Rattle.std.specs.Prelude.{Result, Ok}
use Rattle.answer.specs.declared.Refusal.{Refusal}
use Rattle.answer.specs.Answers.{accepted, given, told}
use Rattle.answer.proofs.Results.{came_back, passed_on, given_taken, given_refused}
use Rattle.schedule.specs.Layout.{schedule_answer, schedule_in, read_schedule}
use Rattle.schedule.specs.declared.Schedule.{Schedule}
use Rattle.codec.proofs.Accepted as codec
use Rattle.page.specs.Refusals.{ending_count}
use Rattle.page.specs.Filled.{page_line}
use Rattle.runs.proofs.PageLaws as pages
use Rattle.filling.proofs.Numbers as numbers
use Rattle.filling.proofs.Answers as answers
use Rattle.filling.proofs.Tables as tables
use Rattle.filling.proofs.Lined as lined
use Rattle.filling.proofs.calls.page_lines.Goals as goal

-- the schedule that was opened
opened : (s : List ℕ) {r : Result Schedule Refusal} {d : Schedule} → r ≡ given (read_schedule s).answer (read_schedule s).schedule → r ≡ Ok d
    → (accepted (schedule_answer s) ≡ true) × (d ≡ schedule_in s)
opened s e was = given_taken (schedule_answer s) (schedule_in s) (e ∙ codec.schedule_given s) was

pub returns-in_err-r : goal.returns-in_err-r
returns-in_err-r c =
    let s = c.args.s.now in
    let g = came_back refl (sym c.in_err-r.ensures) in
    let q = answers.said_none_lem s c.args.k c.args.b.now _ c.args.b.now (passed_on _ _ c.from_residual.ensures.1) (c.in_err-r.ensures ∙ answers.lines_refused s c.args.k (length c.args.b.now) g) refl in
    record { answers = q.0; written = q.1; onward = λ h l m. false_true (sym g ∙ h) }

pub lines_of-requires : goal.lines_of-requires
lines_of-requires c = rw c.shape-z.ensures (pages.page_small c.args.s.now c.in_ok-r.r c.in_ok-r.ensures).1

pub ending_count-count-requires : goal.ending_count-count-requires
ending_count-count-requires c =
    let n = pages.page_small c.args.s.now c.in_ok-r.r c.in_ok-r.ensures in
    rw (c.lines_of.ensures, c.shape-z.ensures, c.counts_of-counts.ensures) (omega (arith, n.0, n.1), pages.page_counted c.args.s.now c.in_ok-r.r c.in_ok-r.ensures)

pub returns-then-count-k : goal.returns-then-count-k
returns-then-count-k c =
    let s = c.args.s.now in
    let r = c.in_ok-r.r in
    let p = c.in_ok-r.ensures in
    let n : c.ending_count-count.result ≡ ending_count s = rw (c.lines_of.ensures, c.shape-z.ensures, c.counts_of-counts.ensures) at c.ending_count-count.ensures ∙ pages.page_count s r p in
    let e = answers.lines_none s (numbers.page_yes s r p) c.args.k (length c.args.b.now) (omega (arith, n, c.if-count-k.true)) in
    let q = answers.said_none_lem s c.args.k c.args.b.now _ c.args.b.now refl e refl in
    record { answers = q.0; written = q.1; onward = λ h l m. absurd (omega (arith, n, c.if-count-k.true)) }

-- a page that is not refused has a schedule that is taken
pub returns-in_err-d : goal.returns-in_err-d
returns-in_err-d c =
    let s = c.args.s.now in
    let a = given_refused (schedule_answer s) (schedule_in s) (c.open_schedule.ensures ∙ codec.schedule_given s) c.in_err-d.was in
    false_true (sym (came_back refl a) ∙ numbers.schedule_yes s c.in_ok-r.r c.in_ok-r.ensures)

pub fill-w-requires : goal.fill-w-requires
fill-w-requires c =
    let s = c.args.s.now in
    let r = c.in_ok-r.r in
    let p = c.in_ok-r.ensures in
    let l = numbers.opened_limits s c.in_ok-d.d (opened s c.open_schedule.ensures c.in_ok-d.was).1 (numbers.schedule_yes s r p) in
    let n = pages.page_small s r p in
    let k = c.if-count-k.false in
    rw c.shape-z.ensures (
      n.0,
      n.1,
      rw c.counts_of-counts.ensures (pages.page_ready s r p),
      l.0,
      l.1,
      rw (rw (c.lines_of.ensures, c.shape-z.ensures, c.counts_of-counts.ensures) at c.ending_count-count.ensures) (numbers.count_limit s r p),
      omega (arith, k),
    )

pub returns-then-w-from : goal.returns-then-w-from
returns-then-w-from c =
    let s = c.args.s.now in
    let r = c.in_ok-r.r in
    let p = c.in_ok-r.ensures in
    let n : c.ending_count-count.result ≡ ending_count s = rw (c.lines_of.ensures, c.shape-z.ensures, c.counts_of-counts.ensures) at c.ending_count-count.ensures ∙ pages.page_count s r p in
    let d = numbers.opened_numbers s c.in_ok-d.d (opened s c.open_schedule.ensures c.in_ok-d.was).1 in
    let w = rw c.shape-z.ensures at c.fill-w.ensures in
    let x = tables.page_lined s r p c.table_of-t.result c.counts_of-counts.result c.in_ok-d.d.t c.in_ok-d.d.count c.ending_count-count.result c.table_of-t.ensures c.counts_of-counts.ensures d.0 d.1 n c.args.b.now c.args.k (length c.args.b.now) c.fill-w.new.b c.fill-w.result.next c.fill-w.result.place (w.next, (omega (arith, w.place), w.bytes)) in
    let h : c.args.k ≤ ending_count s = omega (arith, n, c.if-count-k.false) in
    let l = lined.lined_stays (page_line s) c.args.b.now c.args.k (suc (ending_count s)) (length c.args.b.now) _ c.fill-w.result.next c.fill-w.result.place x (omega arith) c.if-w-from.true in
    let e = answers.lines_room s (numbers.page_yes s r p) c.args.k (length c.args.b.now) h l.0 in
    let q = answers.said_none_lem s c.args.k c.args.b.now _ c.fill-w.new.b refl e l.1 in
    record { answers = q.0; written = q.1; onward = λ h l m. absurd (omega (arith, w.onward m, c.if-w-from.true)) }

pub returns : goal.returns
returns c =
    let s = c.args.s.now in
    let r = c.in_ok-r.r in
    let p = c.in_ok-r.ensures in
    let n : c.ending_count-count.result ≡ ending_count s = rw (c.lines_of.ensures, c.shape-z.ensures, c.counts_of-counts.ensures) at c.ending_count-count.ensures ∙ pages.page_count s r p in
    let d = numbers.opened_numbers s c.in_ok-d.d (opened s c.open_schedule.ensures c.in_ok-d.was).1 in
    let w = rw c.shape-z.ensures at c.fill-w.ensures in
    let x = tables.page_lined s r p c.table_of-t.result c.counts_of-counts.result c.in_ok-d.d.t c.in_ok-d.d.count c.ending_count-count.result c.table_of-t.ensures c.counts_of-counts.ensures d.0 d.1 n c.args.b.now c.args.k (length c.args.b.now) c.fill-w.new.b c.fill-w.result.next c.fill-w.result.place (w.next, (omega (arith, w.place), w.bytes)) in
    let h : c.args.k ≤ ending_count s = omega (arith, n, c.if-count-k.false) in
    let l = lined.lined_goes (page_line s) c.args.b.now c.args.k (suc (ending_count s)) (length c.args.b.now) _ c.fill-w.result.next c.fill-w.result.place x c.if-w-from.false in
    let e = answers.lines_taken_lem s (numbers.page_yes s r p) c.args.k (length c.args.b.now) h l in
    let q = answers.said_some s c.args.k c.args.b.now _ c.fill-w.result.next c.fill-w.result.place e x in
    record { answers = q.0; written = q.1; onward = λ h l m. refl }

use Prim.Native.Nat.{◌+◌, ◌≤◌}
use mathlib.Core.Path.{refl}
use native.Mathlib.Omega.{arith}
use Rattle.answer.proofs.Results.{passed_on, given_taken, given_refused}
use Rattle.page.specs.Refusals.{page_answer}
use Rattle.runs.specs.Paged.{count_of}
use Rattle.schedule.specs.Layout.{count_in, nodes_in}
use Rattle.plainproof.specs.Plain.{lines_in}
use Rattle.plainway.proofs.WayLaws as laws
use Rattle.plainway.proofs.way.way_of.Goals as goal

pub returns-in_err-count : goal.returns-in_err-count
returns-in_err-count c =
    let s = c.args.s.now in
    laws.way_page s c.args.room _ _ (given_refused (page_answer s) (count_of s) c.count_endings.ensures c.in_err-count.was) (passed_on _ _ c.from_residual.ensures.1)

pub returns-in_err-d : goal.returns-in_err-d
returns-in_err-d c =
    let s = c.args.s.now in
    let t = given_taken (page_answer s) (count_of s) c.count_endings.ensures c.in_ok-count.was in
    laws.is_read s t.0 c.open_schedule.ensures c.in_err-d.was

pub returns-then-d-gt12 : goal.returns-then-d-gt12
returns-then-d-gt12 c =
    let s = c.args.s.now in
    let t = given_taken (page_answer s) (count_of s) c.count_endings.ensures c.in_ok-count.was in
    let o = laws.read_is s t.0 c.open_schedule.ensures c.in_ok-d.was in
    laws.many_events s _ t.0 (omega (arith, laws.count_in_lem s t.0 c.in_ok-d.d o, c.if-d-gt12.true))

pub returns-then-g-gt4 : goal.returns-then-g-gt4
returns-then-g-gt4 c =
    let s = c.args.s.now in
    let t = given_taken (page_answer s) (count_of s) c.count_endings.ensures c.in_ok-count.was in
    let o = laws.read_is s t.0 c.open_schedule.ensures c.in_ok-d.was in
    let few : count_in s ≤ 12 = omega (arith, laws.count_in_lem s t.0 c.in_ok-d.d o, c.if-d-gt12.false) in
    laws.many_nodes s _ t.0 few (omega (arith, laws.nodes_in_lem s t.0 c.in_ok-d.d o, c.if-g-gt4.true))

pub lines_of-lines-requires : goal.lines_of-lines-requires
lines_of-lines-requires c =
    let s = c.args.s.now in
    let t = given_taken (page_answer s) (count_of s) c.count_endings.ensures c.in_ok-count.was in
    laws.heads_in s t.0 c.in_ok-d.d (laws.read_is s t.0 c.open_schedule.ensures c.in_ok-d.was)

pub returns-then-lines-gt6 : goal.returns-then-lines-gt6
returns-then-lines-gt6 c =
    let s = c.args.s.now in
    let t = given_taken (page_answer s) (count_of s) c.count_endings.ensures c.in_ok-count.was in
    let o = laws.read_is s t.0 c.open_schedule.ensures c.in_ok-d.was in
    let few : count_in s ≤ 12 = omega (arith, laws.count_in_lem s t.0 c.in_ok-d.d o, c.if-d-gt12.false) in
    let small : nodes_in s ≤ 4 = omega (arith, laws.nodes_in_lem s t.0 c.in_ok-d.d o, c.if-g-gt4.false) in
    laws.many_lines s _ t.0 few small (omega (arith, laws.lines_in_lem s t.0 c.in_ok-d.d o c.lines_of-lines.result c.lines_of-lines.ensures, c.if-lines-gt6.true))

pub size_of-size-requires : goal.size_of-size-requires
size_of-size-requires c =
    let s = c.args.s.now in
    let t = given_taken (page_answer s) (count_of s) c.count_endings.ensures c.in_ok-count.was in
    laws.known_in s t.0 c.in_ok-d.d (laws.read_is s t.0 c.open_schedule.ensures c.in_ok-d.was)

pub overflow_mul-count : goal.overflow_mul-count
overflow_mul-count c =
    let s = c.args.s.now in
    let t = given_taken (page_answer s) (count_of s) c.count_endings.ensures c.in_ok-count.was in
    let o = laws.read_is s t.0 c.open_schedule.ensures c.in_ok-d.was in
    omega (arith, laws.room_fits s t.0 c.in_ok-d.d o c.in_ok-count.count c.size_of-size.result t.1 c.size_of-size.ensures)

pub returns-then-room-count : goal.returns-then-room-count
returns-then-room-count c =
    let s = c.args.s.now in
    let t = given_taken (page_answer s) (count_of s) c.count_endings.ensures c.in_ok-count.was in
    let o = laws.read_is s t.0 c.open_schedule.ensures c.in_ok-d.was in
    let few : count_in s ≤ 12 = omega (arith, laws.count_in_lem s t.0 c.in_ok-d.d o, c.if-d-gt12.false) in
    let small : nodes_in s ≤ 4 = omega (arith, laws.nodes_in_lem s t.0 c.in_ok-d.d o, c.if-g-gt4.false) in
    let short : lines_in s ≤ 6 = omega (arith, laws.lines_in_lem s t.0 c.in_ok-d.d o c.lines_of-lines.result c.lines_of-lines.ensures, c.if-lines-gt6.false) in
    laws.no_room s _ t.0 few small short (omega (arith, laws.room_in s t.0 c.in_ok-d.d o c.in_ok-count.count c.size_of-size.result t.1 c.size_of-size.ensures, c.if-room-count.true))

pub plan_of-plan-requires : goal.plan_of-plan-requires
plan_of-plan-requires c =
    let s = c.args.s.now in
    let t = given_taken (page_answer s) (count_of s) c.count_endings.ensures c.in_ok-count.was in
    (t.0, laws.read_is s t.0 c.open_schedule.ensures c.in_ok-d.was)

pub overflow_cast-base : goal.overflow_cast-base
overflow_cast-base c =
    let s = c.args.s.now in
    let t = given_taken (page_answer s) (count_of s) c.count_endings.ensures c.in_ok-count.was in
    let few : count_in s ≤ 12 = omega (arith, laws.count_in_lem s t.0 c.in_ok-d.d (laws.read_is s t.0 c.open_schedule.ensures c.in_ok-d.was), c.if-d-gt12.false) in
    omega (arith, c.plan_of-plan.ensures.since, laws.since_few s few)

pub overflow_add-base : goal.overflow_add-base
overflow_add-base c =
    let s = c.args.s.now in
    let t = given_taken (page_answer s) (count_of s) c.count_endings.ensures c.in_ok-count.was in
    let few : count_in s ≤ 12 = omega (arith, laws.count_in_lem s t.0 c.in_ok-d.d (laws.read_is s t.0 c.open_schedule.ensures c.in_ok-d.was), c.if-d-gt12.false) in
    omega (arith, c.plan_of-plan.ensures.since, laws.since_few s few)

pub pow-runs-requires : goal.pow-runs-requires
pow-runs-requires c =
    let s = c.args.s.now in
    let t = given_taken (page_answer s) (count_of s) c.count_endings.ensures c.in_ok-count.was in
    let few : count_in s ≤ 12 = omega (arith, laws.count_in_lem s t.0 c.in_ok-d.d (laws.read_is s t.0 c.open_schedule.ensures c.in_ok-d.was), c.if-d-gt12.false) in
    let fits = laws.power_fits (c.plan_of-plan.result.since + 2) c.lines_of-lines.result (omega arith) (omega (arith, c.plan_of-plan.ensures.since, laws.since_few s few)) (omega (arith, c.if-lines-gt6.false)) in
    omega (arith, fits)

pub returns : goal.returns
returns c =
    let s = c.args.s.now in
    let t = given_taken (page_answer s) (count_of s) c.count_endings.ensures c.in_ok-count.was in
    let o = laws.read_is s t.0 c.open_schedule.ensures c.in_ok-d.was in
    let few : count_in s ≤ 12 = omega (arith, laws.count_in_lem s t.0 c.in_ok-d.d o, c.if-d-gt12.false) in
    let small : nodes_in s ≤ 4 = omega (arith, laws.nodes_in_lem s t.0 c.in_ok-d.d o, c.if-g-gt4.false) in
    laws.way_yes s t.0 c.in_ok-d.d o c.args.room c.plan_of-plan.result c.lines_of-lines.result c.size_of-size.result _ c.pow-runs.result c.in_ok-count.count
    few small (omega (arith, c.if-lines-gt6.false)) t.1 (omega (arith, c.if-room-count.false)) c.lines_of-lines.ensures c.size_of-size.ensures c.plan_of-plan.ensures refl c.pow-runs.ensures

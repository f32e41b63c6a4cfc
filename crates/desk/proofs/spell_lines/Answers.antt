use native.Mathlib.Omega.{arith}
use mathlib.Core.Path.{◌≡◌, refl, sym, ap, ◌∙◌}
use mathlib.Core.Bool.{true}
use mathlib.Core.List.{List}
use Prim.Native.Nat.{ℕ, ◌+◌, ◌-◌, ◌<◌, ◌≤◌}
use lib.ListN.{length}
use Rattle.std.specs.Prelude.{Result, Ok}
use Rattle.answer.specs.declared.Refusal.{Refusal}
use Rattle.answer.specs.declared.Refusal.TheVariants as why
use Rattle.answer.specs.Answers.{accepted, given}
use Rattle.answer.proofs.Results.{came_back, passed_on, given_taken, given_refused}
use Rattle.image.specs.Form.{head_lines}
use Rattle.schedule.specs.declared.Schedule.{Schedule}
use Rattle.schedule.specs.Layout.{schedule_answer, schedule_in, read_schedule}
use Rattle.page.specs.Filled.{fitting}
use Rattle.codec.proofs.Accepted as acc
use Rattle.spelling.specs.Writing.{entry_of, entries_in}
use Rattle.wordwriter.proofs.EntryLaws as entries
use Rattle.desk.proofs.SpellLaws as spells
use Rattle.desk.proofs.spell_lines.Goals as goal

-- what is known of a schedule that was opened, and of the count of its head lines
record Known (s : List ℕ) (d : Schedule) (lines : ℕ) : Type 0 where
  taken : accepted (schedule_answer s) ≡ true
  is : d ≡ schedule_in s
  all : 2 + lines + d.image.n + d.count ≡ entries_in s
  few : entries_in s ≤ 5000
  lines_few : lines ≤ 8

known : (s : List ℕ) (d : Schedule) {r : Result Schedule Refusal} (lines : ℕ) → r ≡ given (read_schedule s).answer (read_schedule s).schedule → r ≡ Ok d
    → lines ≡ head_lines (record { form = d.image.form; n = d.image.n; t = d.t }) → Known s d lines
known s d lines e was f =
    let p = given_taken (schedule_answer s) (schedule_in s) (e ∙ acc.schedule_given s) was in
    let h = p.0 in
    let n = entries.nodes_is s d p.1 in
    let m = entries.count_is s d p.1 in
    let l = entries.lines_is s d p.1 lines f in
    record {
      taken = h;
      is = p.1;
      all = omega (arith, n, m, l);
      few = omega (arith, entries.lines_few s h, entries.few s h, entries.short s h);
      lines_few = omega (arith, l, entries.lines_few s h);
    }

pub returns-in_err-d : goal.returns-in_err-d
returns-in_err-d c =
    let s = c.args.s.now in
    let k = c.args.k in
    let b = c.args.b.now in
    let e = given_refused (schedule_answer s) (schedule_in s) (c.open_schedule.ensures ∙ acc.schedule_given s) c.in_err-d.was in
    let whole = spells.gives_none s k b c.in_err-d.field-0.0 b (spells.refused s k b (came_back refl e) ∙ e) refl in
    record { answers = passed_on c.from_residual.result c.in_err-d.field-0.0 c.from_residual.ensures.1 ∙ whole.0; written = whole.1 }

pub overflow_add-to : goal.overflow_add-to
overflow_add-to c = omega (arith, (known c.args.s.now c.in_ok-d.d c.head_lines-lines.result c.open_schedule.ensures c.in_ok-d.was c.head_lines-lines.ensures).lines_few)

pub overflow_add-to-2 : goal.overflow_add-to-2
overflow_add-to-2 c = omega (arith, (known c.args.s.now c.in_ok-d.d c.head_lines-lines.result c.open_schedule.ensures c.in_ok-d.was c.head_lines-lines.ensures).lines_few)

pub overflow_add-to-3 : goal.overflow_add-to-3
overflow_add-to-3 c = omega (arith, (known c.args.s.now c.in_ok-d.d c.head_lines-lines.result c.open_schedule.ensures c.in_ok-d.was c.head_lines-lines.ensures).lines_few)

pub returns-then-to-k : goal.returns-then-to-k
returns-then-to-k c =
    let s = c.args.s.now in
    let p = known s c.in_ok-d.d c.head_lines-lines.result c.open_schedule.ensures c.in_ok-d.was c.head_lines-lines.ensures in
    let whole = spells.gives_none s c.args.k c.args.b.now why.NoEnding c.args.b.now (spells.beyond s c.args.k c.args.b.now p.taken (omega (arith, p.all, c.if-to-k.true))) refl in
    record { answers = whole.0; written = whole.1 }

pub put_entries-w-requires : goal.put_entries-w-requires
put_entries-w-requires c =
    let p = known c.args.s.now c.in_ok-d.d c.head_lines-lines.result c.open_schedule.ensures c.in_ok-d.was c.head_lines-lines.ensures in
    (p.taken, p.is, p.all, omega (arith, c.if-to-k.false), omega (arith, p.all, p.few))

pub overflow_cast-result : goal.overflow_cast-result
overflow_cast-result c =
    let p = known c.args.s.now c.in_ok-d.d c.head_lines-lines.result c.open_schedule.ensures c.in_ok-d.was c.head_lines-lines.ensures in
    omega (arith, p.all, p.few, c.put_entries-w.ensures.within.1)

pub returns-then-w-from : goal.returns-then-w-from
returns-then-w-from c =
    let s = c.args.s.now in
    let k = c.args.k in
    let b = c.args.b.now in
    let w = c.put_entries-w.result.next in
    let p = known s c.in_ok-d.d c.head_lines-lines.result c.open_schedule.ensures c.in_ok-d.was c.head_lines-lines.ensures in
    let t : w - k ≡ fitting (entry_of s) k (entries_in s - k) (length b) = omega (arith, c.put_entries-w.ensures.next, ap (λ z. fitting (entry_of s) k (z - k) (length b)) p.all) in
    let z : w - k ≡ 0 = omega (arith, c.if-w-from.true) in
    let l : k < entries_in s = omega (arith, p.all, c.if-to-k.false) in
    let q = spells.none_of s k b (w - k) c.put_entries-w.new.b z c.put_entries-w.ensures.bytes in
    let whole = spells.gives_none s k b why.Room c.put_entries-w.new.b (spells.no_room s k b p.taken l (spells.stays s k b l (sym t ∙ z))) q in
    record { answers = whole.0; written = whole.1 }

pub returns : goal.returns
returns c =
    let s = c.args.s.now in
    let k = c.args.k in
    let b = c.args.b.now in
    let w = c.put_entries-w.result.next in
    let p = known s c.in_ok-d.d c.head_lines-lines.result c.open_schedule.ensures c.in_ok-d.was c.head_lines-lines.ensures in
    let t : w - k ≡ fitting (entry_of s) k (entries_in s - k) (length b) = omega (arith, c.put_entries-w.ensures.next, ap (λ z. fitting (entry_of s) k (z - k) (length b)) p.all) in
    let l : k < entries_in s = omega (arith, p.all, c.if-to-k.false) in
    let r = spells.some s k b p.taken l (spells.goes s k b (λ z. c.if-w-from.false (omega (arith, t, z, c.put_entries-w.ensures.within)))) in
    let whole = spells.gives_some s k b (w - k) c.put_entries-w.result.place c.put_entries-w.new.b r t c.put_entries-w.ensures.place c.put_entries-w.ensures.bytes in
    record { answers = whole.0; written = whole.1 }

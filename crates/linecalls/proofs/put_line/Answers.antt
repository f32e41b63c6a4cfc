use Prim.Native.Nat.{ℕ, ◌<◌, ◌≤◌}
use mathlib.Core.Path.{◌≡◌, refl, sym, ap, subst, ◌∙◌}
use mathlib.Core.Bool.{true}
use mathlib.Core.List.{List}
use native.Mathlib.Omega.{arith}
use lib.ListN.{length, length-drop}
use lib.Dec.{ltb}
use Rattle.lists.specs.Tab.{over}
use Rattle.std.specs.Prelude.{Result, Ok}
use Rattle.answer.specs.Answers.{accepted, given, Answer}
use Rattle.answer.specs.declared.Refusal.{Refusal}
use Rattle.answer.proofs.Results.{given_taken, given_refused, handed_none, came_back}
use Rattle.pages.specs.Lines.{line_answer, line_in, line_shown}
use Rattle.pages.specs.declared.lines.LineContents.{LineContents}
use Rattle.calls.specs.Line.{parts_of, room_of, line_answered}
use Rattle.codec.proofs.Accepted as codec
use Rattle.calls.proofs.LineLaws as lines
use Rattle.linecalls.proofs.put_line.Goals as goal

-- how many contents there are, of a line that is taken
count_is : (s : List ℕ) (l : ℕ) (r : LineContents) (n : ℕ) → n ≡ r.count → r ≡ line_shown s l → n ≡ length (line_in s l)
count_is s l r n e z = e ∙ ap (λ (x : LineContents). x.count) z

-- the line's own refusal, and what it leaves
pub returns-in_err-r-clause-gives : goal.returns-in_err-r-clause-gives
returns-in_err-r-clause-gives c =
    let s = c.args.schedule.now in
    let l = c.args.line in
    let a = came_back refl (given_refused (line_answer s l) (line_shown s l) c.line_contents.ensures c.in_err-r.was) in
    handed_none (line_answer s l) (line_shown s l) (length (line_in s l)) c.line_contents.ensures c.in_err-r.was c.from_residual.ensures.1
    ∙ ap (λ (x : Answer). given x (length (line_in s l))) (lines.line_refused s l (length c.args.buffer.now) a)

pub returns-in_err-r-clause-written : goal.returns-in_err-r-clause-written
returns-in_err-r-clause-written c =
    let s = c.args.schedule.now in
    let l = c.args.line in
    let b = c.args.buffer.now in
    let a = came_back refl (given_refused (line_answer s l) (line_shown s l) c.line_contents.ensures c.in_err-r.was) in
    sym (lines.line_stays s l b (ap accepted (sym (lines.line_refused s l (length b) a)) ∙ a))

pub head_count-requires : goal.head_count-requires
head_count-requires c =
    let s = c.args.schedule.now in
    let l = c.args.line in
    let h = (given_taken (line_answer s l) (line_shown s l) c.line_contents.ensures c.in_ok-r.was).0 in
    let k = codec.schedule_taken s (lines.line_schedule s l h) in
    omega (arith, length-drop 8 s, k.long, k.part.long)

pub room_of-room-requires : goal.room_of-room-requires
room_of-room-requires c =
    let s = c.args.schedule.now in
    let l = c.args.line in
    let z = given_taken (line_answer s l) (line_shown s l) c.line_contents.ensures c.in_ok-r.was in
    omega (arith, lines.line_few s l z.0, count_is s l _ _ c.from-count.ensures z.1)

pub returns-then-buffer-room : goal.returns-then-buffer-room
returns-then-buffer-room c =
    let s = c.args.schedule.now in
    let l = c.args.line in
    let b = c.args.buffer.now in
    let z = given_taken (line_answer s l) (line_shown s l) c.line_contents.ensures c.in_ok-r.was in
    let q = subst (λ (k : ℕ). length b < room_of (ltb l k) c.from-count.result) c.head_count.ensures (subst (λ (n : ℕ). length b < n) c.room_of-room.ensures c.if-buffer-room.true) in
    let p = subst (λ (n : ℕ). length b < room_of (lines.head s l) n) (count_is s l _ _ c.from-count.ensures z.1) q in
    let w = lines.line_short s l z.0 (length b) p in record {
      gives = ap (λ (x : Answer). given x (length (line_in s l))) w;
      written = sym (lines.line_stays s l b (ap accepted (sym w)));
      small = tt;
    }

pub put_parts-requires : goal.put_parts-requires
put_parts-requires c =
    let s = c.args.schedule.now in
    let l = c.args.line in
    let z = given_taken (line_answer s l) (line_shown s l) c.line_contents.ensures c.in_ok-r.was in
    (omega (arith, lines.line_few s l z.0, count_is s l _ _ c.from-count.ensures z.1), subst (λ (n : ℕ). n ≤ length c.args.buffer.now) c.room_of-room.ensures c.if-buffer-room.false)

pub returns : goal.returns
returns c =
    let s = c.args.schedule.now in
    let l = c.args.line in
    let b = c.args.buffer.now in
    let r = c.in_ok-r.r in
    let n = c.from-count.result in
    let z = given_taken (line_answer s l) (line_shown s l) c.line_contents.ensures c.in_ok-r.was in
    let m = count_is s l r n c.from-count.ensures z.1 in
    let y = subst (λ (k : ℕ). room_of (ltb l k) n ≤ length b) c.head_count.ensures (subst (λ (n : ℕ). n ≤ length b) c.room_of-room.ensures c.if-buffer-room.false) in
    let p = subst (λ (n : ℕ). room_of (lines.head s l) n ≤ length b) m y in
    let w = lines.line_goes s l z.0 (length b) p in
    let e = ap (λ (k : ℕ). over b 0 (parts_of (ltb l k) r.contents n)) c.head_count.ensures ∙ ap (over b 0) (lines.bytes_are s l r.contents n (ap (λ (x : LineContents). x.contents) z.1) m) in
    let i = count_is s l r c.from.result c.from.ensures z.1 in
    let few : length (line_in s l) ≤ 16 = lines.line_few s l z.0 in record {
      gives = ap Ok i ∙ ap (λ (x : Answer). given x (length (line_in s l))) w;
      written = c.put_parts.ensures ∙ e ∙ lines.line_writes s l b (ap accepted (sym w));
      small = omega (arith, i);
    }

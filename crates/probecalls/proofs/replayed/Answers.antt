use Prim.Native.Nat.{ℕ, ◌+◌, ◌<◌}
use mathlib.Core.Path.{refl, sym, ap, ◌∙◌, subst}
use mathlib.Core.Bool.{Bool}
use mathlib.Core.List.{◌∷◌, ◌++◌}
use lib.ListN.{length}
use borrow.Author.Tests.{lt-ltb, le-ltb}
use Rattle.std.specs.Prelude.{Result, Ok, IfOk}
use Rattle.lists.specs.Find.{pick}
use Rattle.lists.specs.Tab.{over}
use Rattle.answer.specs.declared.Refusal.{Refusal}
use Rattle.answer.specs.Answers.{Answer, accepted, given}
use Rattle.answer.proofs.Results.{came_back, passed_on, given_taken, given_refused, handed_none}
use Rattle.image.specs.Bytes.{le4}
use Rattle.replaying.specs.Replay.{replay_answer, replay_of, difference_in}
use Rattle.replaying.specs.declared.Difference.{Difference}
use Rattle.calls.specs.Probes.{odd_value}
use Rattle.calls.proofs.ReplayLaws as replays
use Rattle.probecalls.proofs.replayed.Goals as goal

pub returns-in_err-first-clause-answers : goal.returns-in_err-first-clause-answers
returns-in_err-first-clause-answers c =
    let s = c.args.file.now in
    let v = odd_value (replay_of s) in
    let d = difference_in (replay_of s) in
    let a = replays.replay_refused s (length c.args.buffer.now) (came_back refl (given_refused (replay_answer s) d c.replay.ensures c.in_err-first.was)) in
    handed_none (replay_answer s) d v c.replay.ensures c.in_err-first.was c.from_residual.ensures.1 ∙ ap (λ (x : Answer). given x v) (sym a)

pub returns-in_err-first-clause-small : goal.returns-in_err-first-clause-small
returns-in_err-first-clause-small c =
    subst (λ (r : Result ℕ Refusal). IfOk r (λ v. v < 72057594037927936)) (sym (passed_on c.from_residual.result _ c.from_residual.ensures.1)) tt

pub returns-in_err-first-clause-written : goal.returns-in_err-first-clause-written
returns-in_err-first-clause-written c =
    let s = c.args.file.now in
    let b = c.args.buffer.now in
    let n = came_back refl (given_refused (replay_answer s) (difference_in (replay_of s)) c.replay.ensures c.in_err-first.was) in
    sym (replays.replay_stays s b (ap accepted (replays.replay_refused s (length b) n) ∙ n))

pub returns-then-buffer-lt10-clause-answers : goal.returns-then-buffer-lt10-clause-answers
returns-then-buffer-lt10-clause-answers c =
    let s = c.args.file.now in
    let b = c.args.buffer.now in
    let g = given_taken (replay_answer s) (difference_in (replay_of s)) c.replay.ensures c.in_ok-first.was in
    ap (λ (x : Answer). given x (odd_value (replay_of s))) (sym (replays.replay_short s (length b) g.0 (lt-ltb (length b) 10 c.if-buffer-lt10.true)))

pub returns-then-buffer-lt10-clause-written : goal.returns-then-buffer-lt10-clause-written
returns-then-buffer-lt10-clause-written c =
    let s = c.args.file.now in
    let b = c.args.buffer.now in
    let g = given_taken (replay_answer s) (difference_in (replay_of s)) c.replay.ensures c.in_ok-first.was in
    sym (replays.replay_stays s b (ap accepted (replays.replay_short s (length b) g.0 (lt-ltb (length b) 10 c.if-buffer-lt10.true))))

pub returns-in-None-clause-answers : goal.returns-in-None-clause-answers
returns-in-None-clause-answers c =
    let s = c.args.file.now in
    let b = c.args.buffer.now in
    let g = given_taken (replay_answer s) (difference_in (replay_of s)) c.replay.ensures c.in_ok-first.was in
    let w = replays.replay_taken s (length b) g.0 (le-ltb (length b) 10 c.if-buffer-lt10.false) in
    let d = replays.differs_none (replay_of s) c.in_ok-first.first g.1 c.in-None.is in
    ap Ok (sym (ap (λ (t : Bool). pick t ((replay_of s).event + 1) 0) d)) ∙ ap (λ (x : Answer). given x (odd_value (replay_of s))) (sym w)

pub returns-in-None-clause-written : goal.returns-in-None-clause-written
returns-in-None-clause-written c =
    let s = c.args.file.now in
    let g = given_taken (replay_answer s) (difference_in (replay_of s)) c.replay.ensures c.in_ok-first.was in
    sym (replays.replay_agrees s c.args.buffer.now (replays.differs_none (replay_of s) c.in_ok-first.first g.1 c.in-None.is))

pub returns-in-Some-clause-answers : goal.returns-in-Some-clause-answers
returns-in-Some-clause-answers c =
    let s = c.args.file.now in
    let b = c.args.buffer.now in
    let g = given_taken (replay_answer s) (difference_in (replay_of s)) c.replay.ensures c.in_ok-first.was in
    let w = replays.replay_taken s (length b) g.0 (le-ltb (length b) 10 c.if-buffer-lt10.false) in
    let d = replays.differs_some (replay_of s) c.in_ok-first.first c.in-Some.r g.1 c.in-Some.is in
    let v = ap (λ (x : Difference). x.event + 1) d.1 ∙ sym (ap (λ (t : Bool). pick t ((replay_of s).event + 1) 0) d.0) in
    ap Ok v ∙ ap (λ (x : Answer). given x (odd_value (replay_of s))) (sym w)

pub returns-in-Some-clause-written : goal.returns-in-Some-clause-written
returns-in-Some-clause-written c =
    let s = c.args.file.now in
    let b = c.args.buffer.now in
    let g = given_taken (replay_answer s) (difference_in (replay_of s)) c.replay.ensures c.in_ok-first.was in
    let w = replays.replay_taken s (length b) g.0 (le-ltb (length b) 10 c.if-buffer-lt10.false) in
    let d = replays.differs_some (replay_of s) c.in_ok-first.first c.in-Some.r g.1 c.in-Some.is in
    c.put_both.ensures ∙ ap (λ (x : Difference). over b 0 (x.seen ∷ (le4 x.seen_item ++ (x.given ∷ le4 x.given_item)))) d.1 ∙ sym (replays.replay_goes s b (ap accepted w) d.0)

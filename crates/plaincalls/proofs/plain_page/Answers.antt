use Prim.Native.Nat.{ℕ}
use mathlib.Core.Path.{◌≡◌, ap, ◌∙◌}
use borrow.Author.Rules.{rules}
use lib.ListN.{length}
use Rattle.std.specs.Prelude.{Result, Ok, Err, IsOkAnd, MatchResult}
use Rattle.answer.specs.declared.Refusal.{Refusal}
use Rattle.plainway.specs.Plainly.{plain_answer, plain_count}
use Rattle.calls.specs.Packed.{packed_result}
use Rattle.calls.proofs.Gives.{packed_given}
use Rattle.plaincalls.proofs.plain_page.Goals as goal

-- the count in the wider type is the count
mapped_same : (q : Result ℕ Refusal) (P : ℕ → ℕ → Type 0) → ((x n : ℕ) → P x n → n ≡ x) → {r : Result ℕ Refusal} → MatchResult q (λ x. IsOkAnd r (P x)) (λ e. r ≡ Err e) → r ≡ q
mapped_same (Ok x) P same {r = Ok n} h = ap Ok (same x n h)
mapped_same (Ok x) P same {r = Err e} h = absurd h
mapped_same (Err e) P same h = h

pub returns-clause-answers : goal.returns-clause-answers
returns-clause-answers c =
    let s = c.args.schedule.now in
    let room = length c.args.buffer.now in
    c.packed_result.ensures
    ∙ ap packed_result (mapped_same c.plain_page-count.result _ (λ (x : ℕ) (n : ℕ) h. search rules) c.map.ensures.cases ∙ c.plain_page-count.ensures.counts)
    ∙ packed_given (plain_answer s room) (plain_count s room)

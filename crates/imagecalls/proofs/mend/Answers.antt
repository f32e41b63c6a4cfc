use Prim.Native.Nat.{ℕ}
use mathlib.Core.Path.{◌≡◌, ap, ◌∙◌}
use borrow.Author.Rules.{rules}
use lib.ListN.{length}
use Rattle.std.specs.Prelude.{Result, Ok, Err, IsOkAnd, MatchResult}
use Rattle.answer.specs.declared.Refusal.{Refusal}
use Rattle.mending.specs.Bytes.{mend_answer, mend_count}
use Rattle.calls.specs.Packed.{packed_result}
use Rattle.calls.proofs.Gives.{packed_given}
use Rattle.imagecalls.proofs.mend.Goals as goal

-- the count in the wider type is the count
mapped_same : (q : Result ℕ Refusal) (P : ℕ → ℕ → Type 0) → ((x n : ℕ) → P x n → n ≡ x) → {r : Result ℕ Refusal} → MatchResult q (λ x. IsOkAnd r (P x)) (λ e. r ≡ Err e) → r ≡ q
mapped_same (Ok x) P same {r = Ok n} h = ap Ok (same x n h)
mapped_same (Ok x) P same {r = Err e} h = absurd h
mapped_same (Err e) P same h = h

pub returns-clause-answers : goal.returns-clause-answers
returns-clause-answers c =
    let s = c.args.image.now in
    let room = length c.args.buffer.now in
    let listed = length c.args.list.now in
    c.packed_result.ensures
    ∙ ap packed_result (mapped_same c.mend_image-changed.result _ (λ (x : ℕ) (n : ℕ) h. search rules) c.map.ensures.cases ∙ c.mend_image-changed.ensures.counts)
    ∙ packed_given (mend_answer s room listed) (mend_count s room listed)

-- A lawful history, written as bytes: it is taken, it is lawful as it is read, and it is never judged unlawful.
use Prim.Native.Nat.{ℕ, ◌≤◌}
use mathlib.Core.Path.{◌≡◌, sym, subst}
use mathlib.Core.Bool.{true}
use mathlib.Core.List.{List, map}
use lib.ListN.{length}
use Rattle.answer.specs.Answers.{accepted, Taken}
use Rattle.lawful.specs.Operation.{Operation}
use Rattle.lawful.specs.Lawful.{Lawful}
use Rattle.judging.specs.History.{history_answer, first_in, last_in, operations_in}
use Rattle.judging.specs.Search.{unlawful}
use Rattle.judging.specs.Judged.{judged_in}
use Rattle.judgeproof.specs.Verdicts.{IsLawful}
use Rattle.judgeproof.specs.Written.{history_bytes}
use Rattle.judgeproof.proofs.Renamed.{renamed, lawful_renamed}
use Rattle.judgeproof.proofs.Written.{low, Ordinary, first_back, last_back, operations_back, taken_back}
use Rattle.judgeproof.proofs.Verdicts.{every_verdict}

module _ (ops : List Operation) (first last : List ℕ) (w : Lawful ops first last) (o : Ordinary ops first last) where
  abbrev h : List ℕ
  h = history_bytes ops first last

  pub written_lawful : IsLawful h
  written_lawful =
      subst (λ (l : List Operation). Lawful l (first_in h) (last_in h)) (sym (operations_back ops first last o))
      (subst (λ (q : List ℕ). Lawful (map (renamed low) ops) q (last_in h)) (sym (first_back ops first last))
      (subst (Lawful (map (renamed low) ops) (map low first)) (sym (last_back ops first last)) (lawful_renamed low ops first last w)))

  pub written_taken : length ops ≤ 16 → length first ≤ 63 → length last ≤ 63 → history_answer h ≡ Taken
  written_taken = taken_back ops first last o

  pub never_unlawful : accepted (history_answer h) ≡ true → (judged_in h).verdict ≡ unlawful → ⊥
  never_unlawful t e = ((every_verdict h t).unlawful_exactly.0 e).0 written_lawful

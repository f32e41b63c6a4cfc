-- What a call gives, packed, is its answer, packed with its value: a refusal has its place and no value.
use Prim.Native.Nat.{ℕ, ◌+◌, ◌*◌, ◌<◌}
use mathlib.Core.Path.{◌≡◌, refl, sym, ap, ◌∙◌, subst}
use mathlib.Core.Bool.{true, false}
use lib.Dec.{eqb}
use Rattle.std.specs.Prelude.{Result, Ok, Err, IfOk, IsOkAnd, MatchResult}
use Rattle.answer.specs.declared.Refusal.{Refusal}
use Rattle.answer.specs.declared.Told.{Told}
use Rattle.answer.specs.declared.Reply.{Reply}
use Rattle.answer.specs.Answers.{Answer, told, told_reply, told_refusal, given}
use Rattle.answer.proofs.Results.{went_on, came_back}
use Rattle.calls.specs.Packed.{packed, packed_result}

-- the number of a refusal is not 0
pub number_of_refusal : (e : Refusal) → eqb (told_refusal e).number 0 ≡ false
number_of_refusal e = came_back {a = Err e} refl refl

number_of_reply : (r : Reply) → eqb (told_reply r).number 0 ≡ true
number_of_reply r = went_on {a = Ok r} refl refl

pub packed_given : (a : Answer) (v : ℕ) → packed_result (given a v) ≡ packed (told a) v
unfolding packed
packed_given (Ok r) v = sym (rw (number_of_reply r))
packed_given (Err e) v = rw (number_of_refusal e)

-- what is returned for a refusal that was told
pub refusal_packs : (e : Refusal) (t : Told) → t ≡ told_refusal e → t.number + t.place * 256 ≡ packed_result (Err e)
unfolding packed
refusal_packs e t is = rw (is, number_of_refusal e)

-- what a call returns for a result that is the one its definition names
pub packs : {r : Result ℕ Refusal} {n : ℕ} (a : Answer) (v : ℕ) → n ≡ packed_result r → r ≡ given a v → n ≡ packed (told a) v
packs a v p e = p ∙ ap packed_result e ∙ packed_given a v

-- a value that is small enough where it is given
pub small : {r : Result ℕ Refusal} (a : Answer) (v : ℕ) → r ≡ given a v → v < 72057594037927936 → IfOk r (λ v. v < 72057594037927936)
small a v e h = subst (λ (r : Result ℕ Refusal). IfOk r (λ v. v < 72057594037927936)) (sym e) (by a)
  where
    by : (a : Answer) → IfOk (given a v) (λ v. v < 72057594037927936)
    by (Ok r) = h
    by (Err e) = tt

-- an answer whose reply is made a value, whichever it is
pub mapped :
    (a : Answer) (P : Reply → ℕ → Type 0) (v : ℕ) → ((x : Reply) (n : ℕ) → P x n → n ≡ v) → {r : Result ℕ Refusal} → MatchResult a (λ x. IsOkAnd r (P x)) (λ e. r ≡ Err e) → r ≡ given a v
mapped (Ok x) P v same {r = Ok n} h = ap Ok (same x n h)
mapped (Ok x) P v same {r = Err e} h = absurd h
mapped (Err e) P v same h = h

-- A returned number taken apart, as include/uq.h does it: the answer's number, its place, its reply and item come back.
use Prim.Native.Nat.{ℕ, ◌+◌, ◌*◌, ◌/◌, ◌%◌, ◌<◌}
use mathlib.Core.Path.{◌≡◌, refl, ap, ◌∙◌}
use mathlib.Core.Bool.{Bool, true, false}
use native.Mathlib.Omega.{arith}
use lib.Dec.{eqb}
use borrow.Author.Tests.{eqb-true}
use Rattle.lists.specs.Find.{pick}
use Rattle.answer.specs.declared.Told.{Told}
use Rattle.calls.specs.Packed.{packed, reply_of, lines_of}
use Rattle.calls.specs.Judging.{verdict_of}

number_by : (x : Bool) (n p v : ℕ) → eqb n 0 ≡ x → n < 256 → pick x (v * 256) (n + p * 256) % 256 ≡ n
number_by true n p v e h = omega (arith, eqb-true n 0 e)
number_by false n p v e h = omega arith

-- the number, of every answer: 0 where it is taken
pub number_back : (t : Told) (v : ℕ) → t.number < 256 → packed t v % 256 ≡ t.number
unfolding packed
number_back t v h = number_by (eqb t.number 0) t.number t.place v refl h

-- the value, where it is taken
pub value_back : (t : Told) (v : ℕ) → eqb t.number 0 ≡ true → packed t v / 256 ≡ v
unfolding packed
value_back t v e = ap (λ x. pick x (v * 256) (t.number + t.place * 256) / 256) e ∙ omega arith

-- the place, where it is refused
pub place_back : (t : Told) (v : ℕ) → t.number < 256 → eqb t.number 0 ≡ false → packed t v / 256 ≡ t.place
unfolding packed
place_back t v h e = ap (λ x. pick x (v * 256) (t.number + t.place * 256) / 256) e ∙ omega arith

-- what an event answered
pub item_back : (t : Told) → t.item < 4294967296 → reply_of t % 4294967296 ≡ t.item
item_back t h = omega arith

pub reply_back : (t : Told) → t.item < 4294967296 → reply_of t / 4294967296 ≡ t.reply
reply_back t h = omega arith

-- what a call that writes text has written
pub lines_back : (lines bytes : ℕ) → lines < 16777216 → lines_of lines bytes % 16777216 ≡ lines
lines_back lines bytes h = omega arith

pub bytes_back : (lines bytes : ℕ) → bytes < 4294967296 → lines_of lines bytes / 16777216 ≡ bytes
bytes_back lines bytes h = omega arith

-- what the judge said
pub tries_back : (tries verdict count : ℕ) → tries < 16777216 → verdict < 256 → verdict_of tries verdict count % 16777216 ≡ tries
tries_back tries verdict count h l = omega arith

pub verdict_back : (tries verdict count : ℕ) → tries < 16777216 → verdict < 256 → verdict_of tries verdict count / 16777216 % 256 ≡ verdict
verdict_back tries verdict count h l = omega arith

pub count_back : (tries verdict count : ℕ) → tries < 16777216 → verdict < 256 → verdict_of tries verdict count / 4294967296 ≡ count
count_back tries verdict count h l = omega arith

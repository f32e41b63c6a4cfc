-- An answer as one number: what a call of the library returns.
use Rattle.std.specs.Prelude.{ℕ, ◌+◌, ◌*◌, ◌%◌, eqb, Result, Ok, Err}
use Rattle.lists.specs.Find.{pick}
use Rattle.answer.specs.Answers.{told, told_refusal, Taken}
use Rattle.answer.specs.declared.Told.{Told}
use Rattle.answer.specs.declared.Refusal.{Refusal}

-- number + 256 · value: the value is the place of a refusal, and v where the call is taken
unfoldable pub packed : Told → ℕ → ℕ
packed t v = pick (eqb t.number 0) (v * 256) (t.number + t.place * 256)

-- the same of what a call gives: its value, or a refusal and nothing beside it
abbrev pub packed_result : Result ℕ Refusal → ℕ
packed_result (Ok v) = packed (told Taken) v
packed_result (Err e) = packed (told_refusal e) 0

-- what an event that is taken answered: the item, and the reply behind its 32 bits (0 none yet, 1 Done, 2 Full, 3 Worn out, 4 an item, 5 Empty)
abbrev pub reply_of : Told → ℕ
reply_of t = t.item + t.reply * 4294967296

-- how many lines were written, and behind their 24 bits how many bytes: a page has at most 65,537 lines, and fewer bytes than 2^32
abbrev pub lines_of : ℕ → ℕ → ℕ
lines_of lines bytes = lines % 16777216 + bytes % 4294967296 * 16777216

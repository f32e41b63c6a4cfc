-- Words of a text, byte by byte. A text's line has at most five words; `#` begins a remark; blanks, tabs and carriage returns part words.
use Rattle.std.specs.Prelude.{ℕ, ◌+◌, ◌-◌, ◌*◌, Bool, true, false, List, [], ◌∷◌, set, eqb, ltb, leb}
use Prim.Native.String.{String}
use Rattle.lists.specs.Find.{pick, both}
use Rattle.lists.specs.Text.{text}
use Rattle.spelling.specs.declared.Word.{Word}
use Rattle.spelling.specs.declared.Word.TheVariants as word
use Rattle.spelling.specs.declared.Line.{Line}

abbrev pub no_word : Word
no_word = word.None

abbrev pub letters : ℕ → Word
letters k = word.Letters k

abbrev pub number : ℕ → Word
number x = word.Number x

abbrev pub beyond : Word
beyond = word.Beyond

abbrev pub other : Word
other = word.Other

-- whether nothing of it was read yet
abbrev pub unread : Word → Bool
unread word.None = true
unread (word.Letters k) = false
unread (word.Number x) = false
unread word.Beyond = false
unread word.Other = false

-- its key or its number; 0 where it has none
abbrev pub value_of : Word → ℕ
value_of word.None = 0
value_of (word.Letters k) = k
value_of (word.Number x) = x
value_of word.Beyond = 0
value_of word.Other = 0

-- a digit behind a word; a number of 64 bits is the largest there is
unfoldable pub digit_more : Word → ℕ → Word
digit_more word.None d = number d
digit_more (word.Letters k) d = other
digit_more (word.Number x) d = pick (ltb (x * 10 + d) 18446744073709551616) (number (x * 10 + d)) beyond
digit_more word.Beyond d = beyond
digit_more word.Other d = other

-- a letter behind a word, a to z as 1 to 26, `-` as 27: the key has five bits a letter, and no word that is known has more than ten
unfoldable pub letter_more : Word → ℕ → Word
letter_more word.None d = letters d
letter_more (word.Letters k) d = pick (ltb k 35184372088832) (letters (k * 32 + d)) other
letter_more (word.Number x) d = other
letter_more word.Beyond d = other
letter_more word.Other d = other

-- a word with one byte behind it
unfoldable pub grown : Word → ℕ → Word
grown w x =
    pick (both (leb 48 x) (leb x 57)) (digit_more w (x - 48))
    (pick (both (leb 97 x) (leb x 122)) (letter_more w (x - 96))
    (pick (eqb x 45) (letter_more w 27) other))

-- a line of which nothing was read
abbrev pub no_line : Line
no_line = record { remark = false; count = 0; words = no_word ∷ no_word ∷ no_word ∷ no_word ∷ no_word ∷ []; word = no_word }

-- the word that was read is whole: where it has a letter it is put behind the others
unfoldable pub ended : Line → Line
ended l =
    pick (unread l.word) l
    (pick (ltb l.count 5)
    (record { remark = l.remark; count = l.count + 1; words = set l.words l.count l.word; word = no_word })
    (record { remark = l.remark; count = 6; words = l.words; word = no_word }))

abbrev pub remarked : Line → Line
remarked l = record { remark = true; count = l.count; words = l.words; word = l.word }

abbrev pub in_word : Line → ℕ → Line
in_word l x = record { remark = l.remark; count = l.count; words = l.words; word = grown l.word x }

abbrev pub is_blank : ℕ → Bool
is_blank x = pick (eqb x 32) true (pick (eqb x 9) true (eqb x 13))

-- a line with one byte behind it, which is not the line's end
unfoldable pub line_byte : Line → ℕ → Line
line_byte l x = pick l.remark l (pick (eqb x 35) (remarked (ended l)) (pick (is_blank x) (ended l) (in_word l x)))

-- the key of a word that the language knows
unfoldable pub word_on : Word → List ℕ → Word
word_on w [] = w
word_on w (x ∷ l) = word_on (grown w x) l

unfoldable pub key_of : String → ℕ
key_of s = value_of (word_on no_word (text s))

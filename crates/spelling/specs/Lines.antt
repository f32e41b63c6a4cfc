-- What a line says. A kind of line is one entry of `said_by`: its word, where that stands, how many words there are, and the bounds of its numbers.
use Rattle.std.specs.Prelude.{ℕ, ◌+◌, ◌*◌, ◌%◌, true, false, List, [], ◌∷◌, get_or, eqb, ltb, leb, Some, None}
use Prim.Native.String.{String}
use Rattle.lists.specs.Find.{pick}
use Rattle.spelling.specs.declared.Word.{Word}
use Rattle.spelling.specs.declared.Word.TheVariants as word_is
use Rattle.spelling.specs.declared.Grade.{Grade}
use Rattle.spelling.specs.declared.Grade.TheVariants.{Fits, Large, Strange}
use Rattle.spelling.specs.declared.Line.{Line}
use Rattle.spelling.specs.declared.Act.{Act}
use Rattle.spelling.specs.declared.Act.TheVariants as line_is
use Rattle.spelling.specs.Words.{no_word, value_of, no_line, ended, line_byte, key_of}

-- ---- numbers and their bounds

-- whether w is a number of at most `most`, a larger number, or no number
unfoldable pub grade : Word → ℕ → Grade
grade word_is.None most = Strange
grade (word_is.Letters k) most = Strange
grade (word_is.Number x) most = pick (leb x most) Fits Large
grade word_is.Beyond most = Large
grade word_is.Other most = Strange

abbrev pub worse : Grade → Grade → Grade
worse Fits b = b
worse Large Fits = Large
worse Large Large = Large
worse Large Strange = Strange
worse Strange b = Strange

-- a line whose numbers have the grade g at worst
unfoldable pub graded : Grade → Act → Act
graded Fits a = a
graded Large a = line_is.TooLarge
graded Strange a = line_is.Unknown

abbrev pub byte : ℕ
byte = 255

abbrev pub word : ℕ
word = 4294967295

abbrev pub wide : ℕ
wide = 18446744073709551615

-- ---- the kinds of lines

-- the shape of a line of c words, told from the others by the key of its first or of its second word
abbrev pub first_is : String → ℕ → ℕ
first_is s c = key_of s * 16 + c

abbrev pub second_is : String → ℕ → ℕ
second_is s c = key_of s * 16 + 8 + c

-- the key of a word of letters, which has at most fifty bits; 0 for any other word
unfoldable pub key_in : Word → ℕ
key_in word_is.None = 0
key_in (word_is.Letters k) = k % 1125899906842624
key_in (word_is.Number x) = 0
key_in word_is.Beyond = 0
key_in word_is.Other = 0

unfoldable pub shape_of : Word → Word → ℕ → ℕ
shape_of u v c = pick (ltb 0 (key_in u)) (key_in u * 16 + c) (pick (ltb 0 (key_in v)) (key_in v * 16 + 8 + c) c)

unfoldable pub said_by : ℕ → Word → Word → Word → Word → Word → Act
said_by shape u v w x y =
    pick (eqb shape 0) line_is.Nothing
    (pick (eqb shape (first_is "nodes" 2)) (graded (grade v wide) (line_is.Nodes (value_of v)))
    (pick (eqb shape (first_is "threads" 2)) (graded (grade v byte) (line_is.Threads (value_of v)))
    (pick (eqb shape (first_is "head" 2)) (graded (grade v wide) (line_is.Head None (value_of v)))
    (pick (eqb shape (first_is "node" 5))
    (graded (worse (worse (grade v wide) (grade w byte)) (worse (grade x wide) (grade y word))) (line_is.Node (value_of v) (value_of w) (value_of x) (value_of y)))
    (pick (eqb shape (second_is "enqueue" 3)) (graded (worse (grade u byte) (grade w word)) (line_is.Events 1 (value_of u) (value_of w) 1))
    (pick (eqb shape (second_is "dequeue" 2)) (graded (grade u byte) (line_is.Events 2 (value_of u) 0 1))
    (pick (eqb shape (second_is "step" 2)) (graded (grade u byte) (line_is.Events 3 (value_of u) 0 1))
    (pick (eqb shape (second_is "step" 3)) (graded (worse (grade u byte) (grade w wide)) (line_is.Events 3 (value_of u) 0 (value_of w)))
    (pick (eqb shape (first_is "write-back" 2)) (graded (grade v byte) (line_is.Events 4 (value_of v) 0 1))
    (pick (eqb shape (first_is "crash" 1)) (line_is.Events 5 0 0 1)
    (pick (eqb shape (first_is "event" 4))
    (graded (worse (grade v byte) (worse (grade w byte) (grade x word))) (line_is.Events (value_of v) (value_of w) (value_of x) 1))
    (pick (eqb shape (first_is "version" 2)) (graded (grade v wide) (line_is.Version (value_of v)))
    (pick (eqb shape (first_is "desks" 2)) (graded (grade v byte) (line_is.Desks (value_of v)))
    (pick (eqb shape (first_is "head" 3)) (graded (worse (grade v wide) (grade w wide)) (line_is.Head (Some (value_of v)) (value_of w)))
    line_is.Unknown))))))))))))))

abbrev pub word_at : Line → ℕ → Word
word_at l i = get_or l.words i no_word

abbrev pub said_of : Line → Act
said_of l = said_by (shape_of (word_at l 0) (word_at l 1) l.count) (word_at l 0) (word_at l 1) (word_at l 2) (word_at l 3) (word_at l 4)

-- what a line says, its last word ended
unfoldable pub said : Line → Act
said l = said_of (ended l)

-- ---- the lines of a text: each ends with a line feed, the last one with the text

unfoldable pub acts_from : Line → List ℕ → List Act
acts_from l [] = said l ∷ []
acts_from l (x ∷ t) = elim (eqb x 10) [ true ↦ said l ∷ acts_from no_line t | false ↦ acts_from (line_byte l x) t ]

unfoldable pub acts_of : List ℕ → List Act
acts_of t = acts_from no_line t

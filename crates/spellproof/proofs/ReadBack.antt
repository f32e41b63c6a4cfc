-- The lines that the writer writes, read back: each says what it was written from.
use Rattle.std.specs.Prelude.{Some, None}
use Rattle.spelling.specs.declared.Act.TheVariants as line_is
use Prim.Native.Nat.{ℕ, ◌≤◌}
use mathlib.Core.Path.{◌≡◌, refl, ◌∙◌}
use mathlib.Core.List.{List, [], ◌∷◌, ◌++◌}
use native.Mathlib.Omega.{arith}
use borrow.Author.Tests.{le-leb}
use Rattle.lists.specs.Text.{text, decimal}
use Rattle.page.specs.Printed.{newline}
use Rattle.spelling.specs.declared.Grade.TheVariants.{Fits}
use Rattle.spelling.specs.declared.Word.{Word}
use Rattle.spelling.specs.Words.{no_word, number, letters, digit_more, letter_more, grown, no_line, ended, line_byte, word_on, key_of}
use Rattle.spelling.specs.Lines.{grade, graded, key_in, shape_of, said_by, said, acts_from}
use Rattle.spellproof.proofs.Feeding.{line, Feeds, also, ends, numbered}

abbrev none : List Word
none = no_word ∷ no_word ∷ no_word ∷ no_word ∷ no_word ∷ []

abbrev begins : Word → List Word
begins u = u ∷ no_word ∷ no_word ∷ no_word ∷ no_word ∷ []

abbrev two : Word → Word → List Word
two u v = u ∷ v ∷ no_word ∷ no_word ∷ no_word ∷ []

abbrev three : Word → Word → Word → List Word
three u v w = u ∷ v ∷ w ∷ no_word ∷ no_word ∷ []

abbrev four : Word → Word → Word → Word → List Word
four u v w x = u ∷ v ∷ w ∷ x ∷ no_word ∷ []

graded_good : (w : ℕ) (most : ℕ) → w ≤ most → grade (number w) most ≡ Fits
unfolding grade
graded_good w most h = rw (le-leb w most h)

-- ---- words

nodes_word : Feeds (no_line) (text "nodes ") (line 1 (begins (letters (key_of "nodes"))) no_word)
unfolding text digit_more letter_more grown ended line_byte word_on key_of acts_from
nodes_word = record { on = λ r. refl }

threads_word : Feeds (no_line) (text "threads ") (line 1 (begins (letters (key_of "threads"))) no_word)
unfolding text digit_more letter_more grown ended line_byte word_on key_of acts_from
threads_word = record { on = λ r. refl }

desks_word : Feeds (no_line) (text "desks ") (line 1 (begins (letters (key_of "desks"))) no_word)
unfolding text digit_more letter_more grown ended line_byte word_on key_of acts_from
desks_word = record { on = λ r. refl }

head_word : Feeds (no_line) (text "head ") (line 1 (begins (letters (key_of "head"))) no_word)
unfolding text digit_more letter_more grown ended line_byte word_on key_of acts_from
head_word = record { on = λ r. refl }

version_word : Feeds (no_line) (text "version ") (line 1 (begins (letters (key_of "version"))) no_word)
unfolding text digit_more letter_more grown ended line_byte word_on key_of acts_from
version_word = record { on = λ r. refl }

node_word : Feeds (no_line) (text "node ") (line 1 (begins (letters (key_of "node"))) no_word)
unfolding text digit_more letter_more grown ended line_byte word_on key_of acts_from
node_word = record { on = λ r. refl }

write_back_word : Feeds (no_line) (text "write-back ") (line 1 (begins (letters (key_of "write-back"))) no_word)
unfolding text digit_more letter_more grown ended line_byte word_on key_of acts_from
write_back_word = record { on = λ r. refl }

event_word : Feeds (no_line) (text "event ") (line 1 (begins (letters (key_of "event"))) no_word)
unfolding text digit_more letter_more grown ended line_byte word_on key_of acts_from
event_word = record { on = λ r. refl }

crash_word : Feeds (no_line) (text "crash") (line 0 none (letters (key_of "crash")))
unfolding text digit_more letter_more grown ended line_byte word_on key_of acts_from
crash_word = record { on = λ r. refl }

-- a blank behind a number
blank_1 : (u : Word) (x : ℕ) → Feeds (line 1 (begins u) (number x)) (text " ") (line 2 (two u (number x)) no_word)
unfolding text digit_more letter_more grown ended line_byte word_on key_of acts_from
blank_1 u x = record { on = λ r. refl }

blank_2 : (u v : Word) (x : ℕ) → Feeds (line 2 (two u v) (number x)) (text " ") (line 3 (three u v (number x)) no_word)
unfolding text digit_more letter_more grown ended line_byte word_on key_of acts_from
blank_2 u v x = record { on = λ r. refl }

blank_3 : (u v w : Word) (x : ℕ) → Feeds (line 3 (three u v w) (number x)) (text " ") (line 4 (four u v w (number x)) no_word)
unfolding text digit_more letter_more grown ended line_byte word_on key_of acts_from
blank_3 u v w x = record { on = λ r. refl }

-- a word behind a number
enqueue_word : (x : ℕ) → Feeds (line 0 none (number x)) (text " enqueue ") (line 2 (two (number x) (letters (key_of "enqueue"))) no_word)
unfolding text digit_more letter_more grown ended line_byte word_on key_of acts_from
enqueue_word x = record { on = λ r. refl }

step_word : (x : ℕ) → Feeds (line 0 none (number x)) (text " step ") (line 2 (two (number x) (letters (key_of "step"))) no_word)
unfolding text digit_more letter_more grown ended line_byte word_on key_of acts_from
step_word x = record { on = λ r. refl }

dequeue_word : (x : ℕ) → Feeds (line 0 none (number x)) (text " dequeue") (line 1 (begins (number x)) (letters (key_of "dequeue")))
unfolding text digit_more letter_more grown ended line_byte word_on key_of acts_from
dequeue_word x = record { on = λ r. refl }

-- ---- lines

pub nodes_said : (x : ℕ) (r : List ℕ) → x ≤ 18446744073709551615
    → acts_from no_line (text "nodes " ++ decimal x ++ newline ++ r) ≡ line_is.Nodes x ∷ acts_from no_line r
unfolding said ended key_in shape_of said_by key_of word_on text grown letter_more graded
nodes_said x r h = ends (also nodes_word (numbered 1 (begins (letters (key_of "nodes"))) x (omega arith))) r ∙ rw (graded_good x 18446744073709551615 h)

pub threads_said_lem : (x : ℕ) (r : List ℕ) → x ≤ 255
    → acts_from no_line (text "threads " ++ decimal x ++ newline ++ r) ≡ line_is.Threads x ∷ acts_from no_line r
unfolding said ended key_in shape_of said_by key_of word_on text grown letter_more graded
threads_said_lem x r h = ends (also threads_word (numbered 1 (begins (letters (key_of "threads"))) x (omega arith))) r ∙ rw (graded_good x 255 h)

pub version_said : (x : ℕ) (r : List ℕ) → x ≤ 18446744073709551615
    → acts_from no_line (text "version " ++ decimal x ++ newline ++ r) ≡ line_is.Version x ∷ acts_from no_line r
unfolding said ended key_in shape_of said_by key_of word_on text grown letter_more graded
version_said x r h = ends (also version_word (numbered 1 (begins (letters (key_of "version"))) x (omega arith))) r ∙ rw (graded_good x 18446744073709551615 h)

pub desks_said : (x : ℕ) (r : List ℕ) → x ≤ 255
    → acts_from no_line (text "desks " ++ decimal x ++ newline ++ r) ≡ line_is.Desks x ∷ acts_from no_line r
unfolding said ended key_in shape_of said_by key_of word_on text grown letter_more graded
desks_said x r h = ends (also desks_word (numbered 1 (begins (letters (key_of "desks"))) x (omega arith))) r ∙ rw (graded_good x 255 h)

pub head_said : (x : ℕ) (r : List ℕ) → x ≤ 18446744073709551615
    → acts_from no_line (text "head " ++ decimal x ++ newline ++ r) ≡ line_is.Head None x ∷ acts_from no_line r
unfolding said ended key_in shape_of said_by key_of word_on text grown letter_more graded
head_said x r h = ends (also head_word (numbered 1 (begins (letters (key_of "head"))) x (omega arith))) r ∙ rw (graded_good x 18446744073709551615 h)

pub named_said : (k x : ℕ) (r : List ℕ) → k ≤ 255 → x ≤ 18446744073709551615
    → acts_from no_line (text "head " ++ decimal k ++ text " " ++ decimal x ++ newline ++ r) ≡ line_is.Head (Some k) x ∷ acts_from no_line r
unfolding said ended key_in shape_of said_by key_of word_on text grown letter_more graded
named_said k x r hk hx =
    let u = letters (key_of "head") in
    ends (also (also (also head_word (numbered 1 (begins u) k (omega arith))) (blank_1 u k)) (numbered 2 (two u (number k)) x (omega arith))) r
    ∙ rw (graded_good k 18446744073709551615 (omega arith), graded_good x 18446744073709551615 hx)

pub node_said : (i l x v : ℕ) (r : List ℕ) → i ≤ 255 → l ≤ 255 → x ≤ 18446744073709551615 → v ≤ 4294967295
    → acts_from no_line (text "node " ++ decimal i ++ text " " ++ decimal l ++ text " " ++ decimal x ++ text " " ++ decimal v ++ newline ++ r) ≡ line_is.Node i l x v ∷ acts_from no_line r
unfolding said ended key_in shape_of said_by key_of word_on text grown letter_more graded
node_said i l x v r hi hl hx hv =
    let u = letters (key_of "node") in
    ends (also (also (also (also (also (also (also node_word (numbered 1 (begins u) i (omega arith))) (blank_1 u i))
    (numbered 2 (two u (number i)) l (omega arith))) (blank_2 u (number i) l))
    (numbered 3 (three u (number i) (number l)) x (omega arith))) (blank_3 u (number i) (number l) x))
    (numbered 4 (four u (number i) (number l) (number x)) v (omega arith))) r
    ∙ rw (graded_good i 18446744073709551615 (omega arith), graded_good l 255 hl, graded_good x 18446744073709551615 hx, graded_good v 4294967295 hv)

pub event_said : (k n v : ℕ) (r : List ℕ) → k ≤ 255 → n ≤ 255 → v ≤ 4294967295
    → acts_from no_line (text "event " ++ decimal k ++ text " " ++ decimal n ++ text " " ++ decimal v ++ newline ++ r) ≡ line_is.Events k n v 1 ∷ acts_from no_line r
unfolding said ended key_in shape_of said_by key_of word_on text grown letter_more graded
event_said k n v r hk hn hv =
    let u = letters (key_of "event") in
    ends (also (also (also (also (also event_word (numbered 1 (begins u) k (omega arith))) (blank_1 u k))
    (numbered 2 (two u (number k)) n (omega arith))) (blank_2 u (number k) n))
    (numbered 3 (three u (number k) (number n)) v (omega arith))) r
    ∙ rw (graded_good k 255 hk, graded_good n 255 hn, graded_good v 4294967295 hv)

pub write_back_said : (x : ℕ) (r : List ℕ) → x ≤ 255 → acts_from no_line (text "write-back " ++ decimal x ++ newline ++ r) ≡ line_is.Events 4 x 0 1 ∷ acts_from no_line r
unfolding said ended key_in shape_of said_by key_of word_on text grown letter_more graded
write_back_said x r h = ends (also write_back_word (numbered 1 (begins (letters (key_of "write-back"))) x (omega arith))) r ∙ rw (graded_good x 255 h)

pub crash_said : (r : List ℕ) → acts_from no_line (text "crash" ++ newline ++ r) ≡ line_is.Events 5 0 0 1 ∷ acts_from no_line r
unfolding said ended key_in shape_of said_by key_of word_on text grown letter_more graded
crash_said r = ends crash_word r

pub enqueue_said : (n v : ℕ) (r : List ℕ) → n ≤ 255 → v ≤ 4294967295
    → acts_from no_line (decimal n ++ text " enqueue " ++ decimal v ++ newline ++ r) ≡ line_is.Events 1 n v 1 ∷ acts_from no_line r
unfolding said ended key_in shape_of said_by key_of word_on text grown letter_more graded
enqueue_said n v r hn hv =
    ends (also (also (numbered 0 none n (omega arith)) (enqueue_word n)) (numbered 2 (two (number n) (letters (key_of "enqueue"))) v (omega arith))) r
    ∙ rw (graded_good n 255 hn, graded_good v 4294967295 hv)

pub step_said : (n c : ℕ) (r : List ℕ) → n ≤ 255 → c ≤ 4294967295
    → acts_from no_line (decimal n ++ text " step " ++ decimal c ++ newline ++ r) ≡ line_is.Events 3 n 0 c ∷ acts_from no_line r
unfolding said ended key_in shape_of said_by key_of word_on text grown letter_more graded
step_said n c r hn hc =
    ends (also (also (numbered 0 none n (omega arith)) (step_word n)) (numbered 2 (two (number n) (letters (key_of "step"))) c (omega arith))) r
    ∙ rw (graded_good n 255 hn, graded_good c 18446744073709551615 (omega arith))

pub dequeue_said : (n : ℕ) (r : List ℕ) → n ≤ 255 → acts_from no_line (decimal n ++ text " dequeue" ++ newline ++ r) ≡ line_is.Events 2 n 0 1 ∷ acts_from no_line r
unfolding said ended key_in shape_of said_by key_of word_on text grown letter_more graded
dequeue_said n r hn = ends (also (numbered 0 none n (omega arith)) (dequeue_word n)) r ∙ rw (graded_good n 255 hn)

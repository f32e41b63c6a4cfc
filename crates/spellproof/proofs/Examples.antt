-- P1, P6, P10 on an image of version 2 and a schedule with one head index per desk in words, computed both ways; texts that are refused.
use Prim.Native.Nat.{ℕ}
use mathlib.Core.Path.{◌≡◌, refl}
use mathlib.Core.List.{List, [], ◌∷◌, ◌++◌}
use lib.ListN.{replicate}
use Rattle.lists.specs.Find.{least}
use Rattle.lists.specs.Tab.{joined, over}
use Rattle.lists.specs.Text.{text, decimal, digits_of}
use Rattle.cases.specs.Inputs.{four, enqueue, dequeue, step, zero_nodes, schedule}
use Rattle.cases.specs.Starred.{p1, p6}
use Rattle.cases.specs.Desks.{fours, desk_nodes, by_one}
use Rattle.page.specs.Filled.{lines_on}
use Rattle.spelling.specs.Words.{digit_more, letter_more, grown, ended, line_byte, word_on, key_of}
use Rattle.spelling.specs.Lines.{grade, graded, key_in, shape_of, said_by, said, acts_from, acts_of}
use Rattle.image.specs.Bytes.{at_w}
use Rattle.image.specs.Form.{top_of, width_of, heads_at, node_size, head_lines, header_size, node_place, image_size, per_desk}
use Rattle.image.specs.Layout.{marked, form_in, mark_bytes}
use Rattle.spelling.specs.Layout.{head_of}
use Rattle.spelling.specs.Reading.{Taken, Strange, Large, Many, Room, version_form, head_named, index_said, nodes_said, version_said, desks_said, threads_said, heads_said, events_said, behind_nodes, surveyed, survey_from, last_from, survey_of, blank_file, times, put_by, reach_by, put_all, file_of, read_answer}
use Rattle.spelling.specs.Writing.{threads_line, version_line, head_line, head_at, node_line, event_line, node_entry, follows, run_end, event_entry, entry_of, words_of}

unfoldable pub P1 : List ℕ
P1 = schedule 1 (zero_nodes 2 0) (p1 9)

unfoldable pub P6 : List ℕ
P6 = schedule 2 (zero_nodes 3 0) p6

-- version 2, the head index the largest of 64 bits
unfoldable pub wide10 : List ℕ
wide10 = schedule 1 (85 ∷ 81 ∷ 73 ∷ 2 ∷ 0 ∷ 2 ∷ replicate 8 255 ++ replicate 26 0) (enqueue 0 1 ++ step 7 0)

pub p1_words : words_of P1 ≡ text "nodes 2\nthreads 1\nhead 0\n0 enqueue 7\n0 step 9\n"
unfolding P1 p1 four enqueue step zero_nodes schedule text decimal digits_of joined least lines_on node_line event_line node_entry follows run_end event_entry entry_of words_of at_w threads_line version_line head_line head_at per_desk form_in marked head_lines image_size node_place header_size node_size heads_at width_of
p1_words = refl

pub p6_words : words_of P6 ≡ text "nodes 3\nthreads 2\nhead 0\n0 enqueue 5\n0 step 8\n1 enqueue 6\n1 step 15\n"
unfolding P6 p6 four enqueue step zero_nodes schedule text decimal digits_of joined least lines_on node_line event_line node_entry follows run_end event_entry entry_of words_of at_w threads_line version_line head_line head_at per_desk form_in marked head_lines image_size node_place header_size node_size heads_at width_of
p6_words = refl

pub wide_words : words_of wide10 ≡ text "nodes 2\nthreads 1\nversion 2\nhead 18446744073709551615\n0 enqueue 1\n0 step 7\n"
unfolding wide10 four enqueue step schedule text decimal digits_of joined least lines_on node_line event_line node_entry follows run_end event_entry entry_of words_of at_w threads_line version_line head_line head_at per_desk form_in marked head_lines image_size node_place header_size node_size heads_at width_of
wide_words = refl

-- with remarks, blank lines, tabs, carriage returns, and no line feed at the end
pub p1_read : file_of (text "# P1\r\n\n  nodes\t2 # two of them\r\n0 enqueue 007\n0 step 8#\n 0 step") ≡ P1
unfolding P1 p1 four enqueue step zero_nodes schedule text joined over digit_more letter_more grown ended line_byte word_on key_of grade graded key_in shape_of said_by said acts_from acts_of index_said top_of version_form nodes_said version_said desks_said threads_said heads_said head_named per_desk events_said behind_nodes surveyed survey_from survey_of mark_bytes head_lines node_place header_size node_size heads_at width_of head_of blank_file times put_by reach_by put_all file_of
p1_read = refl

pub p6_read : file_of (text "nodes 3\nthreads 2\n0 enqueue 5\n0 step 8\nevent 1 1 6\n1 step 15\n") ≡ P6
unfolding P6 p6 four enqueue step zero_nodes schedule text joined over digit_more letter_more grown ended line_byte word_on key_of grade graded key_in shape_of said_by said acts_from acts_of index_said top_of version_form nodes_said version_said desks_said threads_said heads_said head_named per_desk events_said behind_nodes surveyed survey_from survey_of mark_bytes head_lines node_place header_size node_size heads_at width_of head_of blank_file times put_by reach_by put_all file_of
p6_read = refl

-- `threads` and events may stand before `version`
pub wide_read : file_of (text "nodes 2\n0 enqueue 1\nversion 2\n0 step 7\nhead 18446744073709551615") ≡ wide10
unfolding wide10 four enqueue step schedule text joined over digit_more letter_more grown ended line_byte word_on key_of grade graded key_in shape_of said_by said acts_from acts_of index_said top_of version_form nodes_said version_said desks_said threads_said heads_said head_named per_desk events_said behind_nodes surveyed survey_from survey_of mark_bytes head_lines node_place header_size node_size heads_at width_of head_of blank_file times put_by reach_by put_all file_of
wide_read = refl

-- ---- what is refused; the lines are counted from 0

pub empty_text : read_answer (text "") 100 ≡ Strange 0
unfolding text ended key_in shape_of said_by said acts_from acts_of index_said top_of version_form nodes_said version_said desks_said threads_said heads_said head_named per_desk events_said behind_nodes surveyed survey_from last_from survey_of read_answer head_lines node_place header_size node_size heads_at width_of key_of word_on grown digit_more letter_more
empty_text = refl

pub no_nodes : read_answer (text "# none\n0 step\n") 100 ≡ Strange 1
unfolding text digit_more letter_more grown ended line_byte word_on key_of grade graded key_in shape_of said_by said acts_from acts_of index_said top_of version_form nodes_said version_said desks_said threads_said heads_said head_named per_desk events_said behind_nodes surveyed survey_from last_from survey_of read_answer head_lines node_place header_size node_size heads_at width_of
no_nodes = refl

pub too_large : read_answer (text "nodes 2\n256 step\n") 100 ≡ Large 1
unfolding text digit_more letter_more grown ended line_byte word_on key_of grade graded key_in shape_of said_by said acts_from acts_of index_said top_of version_form nodes_said version_said desks_said threads_said heads_said head_named per_desk events_said behind_nodes surveyed survey_from last_from survey_of read_answer head_lines node_place header_size node_size heads_at width_of
too_large = refl

pub beyond_wide : read_answer (text "nodes 2\n0 step 18446744073709551616\n") 100 ≡ Large 1
unfolding text digit_more letter_more grown ended line_byte word_on key_of grade graded key_in shape_of said_by said acts_from acts_of index_said top_of version_form nodes_said version_said desks_said threads_said heads_said head_named per_desk events_said behind_nodes surveyed survey_from last_from survey_of read_answer head_lines node_place header_size node_size heads_at width_of
beyond_wide = refl

pub too_many : read_answer (text "nodes 2\n0 step 18446744073709551615\n") 100 ≡ Many 1
unfolding text digit_more letter_more grown ended line_byte word_on key_of grade graded key_in shape_of said_by said acts_from acts_of index_said top_of version_form nodes_said version_said desks_said threads_said heads_said head_named per_desk events_said behind_nodes surveyed survey_from last_from survey_of read_answer head_lines node_place header_size node_size heads_at width_of
too_many = refl

pub node_too_large : read_answer (text "nodes 2\nnode 2 0 0 0") 100 ≡ Large 1
unfolding text digit_more letter_more grown ended line_byte word_on key_of grade graded key_in shape_of said_by said acts_from acts_of index_said top_of version_form nodes_said version_said desks_said threads_said heads_said head_named per_desk events_said behind_nodes surveyed survey_from last_from survey_of read_answer head_lines node_place header_size node_size heads_at width_of
node_too_large = refl

pub six_words : read_answer (text "nodes 2\nnode 1 0 0 0 0") 100 ≡ Strange 1
unfolding text digit_more letter_more grown ended line_byte word_on key_of grade graded key_in shape_of said_by said acts_from acts_of index_said top_of version_form nodes_said version_said desks_said threads_said heads_said head_named per_desk events_said behind_nodes surveyed survey_from last_from survey_of read_answer head_lines node_place header_size node_size heads_at width_of
six_words = refl

pub one_byte_short : read_answer (text "nodes 2") 35 ≡ Room
unfolding text digit_more letter_more grown ended line_byte word_on key_of grade graded key_in shape_of said_by said acts_from acts_of index_said top_of version_form nodes_said version_said desks_said threads_said heads_said head_named per_desk events_said behind_nodes surveyed survey_from last_from survey_of read_answer head_lines node_place header_size node_size heads_at width_of
one_byte_short = refl

pub just_room : read_answer (text "nodes 2") 36 ≡ Taken
unfolding text digit_more letter_more grown ended line_byte word_on key_of grade graded key_in shape_of said_by said acts_from acts_of index_said top_of version_form nodes_said version_said desks_said threads_said heads_said head_named per_desk events_said behind_nodes surveyed survey_from last_from survey_of read_answer head_lines node_place header_size node_size heads_at width_of
just_room = refl

pub version_3 : read_answer (text "nodes 2\nversion 3\n") 100 ≡ Strange 1
unfolding text digit_more letter_more grown ended line_byte word_on key_of grade graded key_in shape_of said_by said acts_from acts_of index_said top_of version_form nodes_said version_said desks_said threads_said heads_said head_named per_desk events_said behind_nodes surveyed survey_from last_from survey_of read_answer head_lines node_place header_size node_size heads_at width_of
version_3 = refl

pub version_first : read_answer (text "version 2\nnodes 2\n") 100 ≡ Strange 0
unfolding text digit_more letter_more grown ended line_byte word_on key_of grade graded key_in shape_of said_by said acts_from acts_of index_said top_of version_form nodes_said version_said desks_said threads_said heads_said head_named per_desk events_said behind_nodes surveyed survey_from last_from survey_of read_answer head_lines node_place header_size node_size heads_at width_of
version_first = refl

pub version_twice : read_answer (text "nodes 2\nversion 1\nversion 1\n") 100 ≡ Strange 2
unfolding text digit_more letter_more grown ended line_byte word_on key_of grade graded key_in shape_of said_by said acts_from acts_of index_said top_of version_form nodes_said version_said desks_said threads_said heads_said head_named per_desk events_said behind_nodes surveyed survey_from last_from survey_of read_answer head_lines node_place header_size node_size heads_at width_of
version_twice = refl

pub version_late : read_answer (text "nodes 2\nhead 0\nversion 2\n") 100 ≡ Strange 2
unfolding text digit_more letter_more grown ended line_byte word_on key_of grade graded key_in shape_of said_by said acts_from acts_of index_said top_of version_form nodes_said version_said desks_said threads_said heads_said head_named per_desk events_said behind_nodes surveyed survey_from last_from survey_of read_answer head_lines node_place header_size node_size heads_at width_of
version_late = refl

pub head_narrow : read_answer (text "nodes 2\nhead 4294967296\n") 100 ≡ Large 1
unfolding text digit_more letter_more grown ended line_byte word_on key_of grade graded key_in shape_of said_by said acts_from acts_of index_said top_of version_form nodes_said version_said desks_said threads_said heads_said head_named per_desk events_said behind_nodes surveyed survey_from last_from survey_of read_answer head_lines node_place header_size node_size heads_at width_of
head_narrow = refl

pub index_narrow : read_answer (text "nodes 2\nversion 1\nnode 0 0 4294967296 0\n") 100 ≡ Large 2
unfolding text digit_more letter_more grown ended line_byte word_on key_of grade graded key_in shape_of said_by said acts_from acts_of index_said top_of version_form nodes_said version_said desks_said threads_said heads_said head_named per_desk events_said behind_nodes surveyed survey_from last_from survey_of read_answer head_lines node_place header_size node_size heads_at width_of
index_narrow = refl

pub wide_room : read_answer (text "nodes 2\nversion 2\nhead 4294967296\n") 48 ≡ Taken
unfolding text digit_more letter_more grown ended line_byte word_on key_of grade graded key_in shape_of said_by said acts_from acts_of index_said top_of version_form nodes_said version_said desks_said threads_said heads_said head_named per_desk events_said behind_nodes surveyed survey_from last_from survey_of read_answer head_lines node_place header_size node_size heads_at width_of
wide_room = refl

pub wide_short : read_answer (text "nodes 2\nversion 2\n") 47 ≡ Room
unfolding text digit_more letter_more grown ended line_byte word_on key_of grade graded key_in shape_of said_by said acts_from acts_of index_said top_of version_form nodes_said version_said desks_said threads_said heads_said head_named per_desk events_said behind_nodes surveyed survey_from last_from survey_of read_answer head_lines node_place header_size node_size heads_at width_of
wide_short = refl

-- ---- one head index per desk

-- two desks, the second one's index 3; thread 0 enqueues 7, thread 1 dequeues
unfoldable pub desks2 : List ℕ
desks2 = schedule 2 (desk_nodes 2 (0 ∷ 3 ∷ [])) (by_one 5)

pub desks_words : words_of desks2 ≡ text "nodes 2\ndesks 2\nhead 0 0\nhead 1 3\n0 enqueue 7\n0 step 12\n1 dequeue\n1 step 5\n"
unfolding desks2 fours desk_nodes by_one p1 four enqueue dequeue step schedule text decimal digits_of joined least lines_on node_line event_line node_entry follows run_end event_entry entry_of words_of at_w threads_line version_line head_line head_at per_desk form_in marked head_lines image_size node_place header_size node_size heads_at width_of
desks_words = refl

-- an index that no line says is 0, the last one counts; `threads` may stand before `desks`
pub desks_read : file_of (text "nodes 2\nthreads 5\n0 enqueue 7\ndesks 2\nhead 1 9\n0 step 12\n1 dequeue\nhead 1 3\n1 step 5") ≡ desks2
unfolding desks2 fours desk_nodes by_one p1 four enqueue dequeue step schedule text joined over digit_more letter_more grown ended line_byte word_on key_of grade graded key_in shape_of said_by said acts_from acts_of index_said top_of version_form nodes_said version_said desks_said threads_said heads_said head_named per_desk events_said behind_nodes surveyed survey_from survey_of mark_bytes head_lines node_place header_size node_size heads_at width_of head_of blank_file times put_by reach_by put_all file_of
desks_read = refl

pub desks_late : read_answer (text "nodes 2\nhead 0\ndesks 2\n") 100 ≡ Strange 2
unfolding text digit_more letter_more grown ended line_byte word_on key_of grade graded key_in shape_of said_by said acts_from acts_of index_said top_of version_form nodes_said version_said desks_said threads_said heads_said head_named per_desk events_said behind_nodes surveyed survey_from last_from survey_of read_answer head_lines node_place header_size node_size heads_at width_of
desks_late = refl

pub desks_behind_version : read_answer (text "nodes 2\nversion 1\ndesks 2\n") 100 ≡ Strange 2
unfolding text digit_more letter_more grown ended line_byte word_on key_of grade graded key_in shape_of said_by said acts_from acts_of index_said top_of version_form nodes_said version_said desks_said threads_said heads_said head_named per_desk events_said behind_nodes surveyed survey_from last_from survey_of read_answer head_lines node_place header_size node_size heads_at width_of
desks_behind_version = refl

pub threads_behind_desks : read_answer (text "nodes 2\ndesks 2\nthreads 2\n") 100 ≡ Strange 2
unfolding text digit_more letter_more grown ended line_byte word_on key_of grade graded key_in shape_of said_by said acts_from acts_of index_said top_of version_form nodes_said version_said desks_said threads_said heads_said head_named per_desk events_said behind_nodes surveyed survey_from last_from survey_of read_answer head_lines node_place header_size node_size heads_at width_of
threads_behind_desks = refl

pub head_unnamed : read_answer (text "nodes 2\ndesks 2\nhead 3\n") 100 ≡ Strange 2
unfolding text digit_more letter_more grown ended line_byte word_on key_of grade graded key_in shape_of said_by said acts_from acts_of index_said top_of version_form nodes_said version_said desks_said threads_said heads_said head_named per_desk events_said behind_nodes surveyed survey_from last_from survey_of read_answer head_lines node_place header_size node_size heads_at width_of
head_unnamed = refl

pub head_named_lem : read_answer (text "nodes 2\nhead 0 3\n") 100 ≡ Strange 1
unfolding text digit_more letter_more grown ended line_byte word_on key_of grade graded key_in shape_of said_by said acts_from acts_of index_said top_of version_form nodes_said version_said desks_said threads_said heads_said head_named per_desk events_said behind_nodes surveyed survey_from last_from survey_of read_answer head_lines node_place header_size node_size heads_at width_of
head_named_lem = refl

pub head_beyond : read_answer (text "nodes 2\ndesks 2\nhead 2 3\n") 100 ≡ Large 2
unfolding text digit_more letter_more grown ended line_byte word_on key_of grade graded key_in shape_of said_by said acts_from acts_of index_said top_of version_form nodes_said version_said desks_said threads_said heads_said head_named per_desk events_said behind_nodes surveyed survey_from last_from survey_of read_answer head_lines node_place header_size node_size heads_at width_of
head_beyond = refl

pub desk_narrow : read_answer (text "nodes 2\ndesks 2\nhead 1 4294967296\n") 100 ≡ Large 2
unfolding text digit_more letter_more grown ended line_byte word_on key_of grade graded key_in shape_of said_by said acts_from acts_of index_said top_of version_form nodes_said version_said desks_said threads_said heads_said head_named per_desk events_said behind_nodes surveyed survey_from last_from survey_of read_answer head_lines node_place header_size node_size heads_at width_of
desk_narrow = refl

pub desks_room : read_answer (text "nodes 2\ndesks 2\n") 41 ≡ Taken
unfolding text digit_more letter_more grown ended line_byte word_on key_of grade graded key_in shape_of said_by said acts_from acts_of index_said top_of version_form nodes_said version_said desks_said threads_said heads_said head_named per_desk events_said behind_nodes surveyed survey_from last_from survey_of read_answer head_lines node_place header_size node_size heads_at width_of
desks_room = refl

pub desks_short : read_answer (text "nodes 2\ndesks 2\n") 40 ≡ Room
unfolding text digit_more letter_more grown ended line_byte word_on key_of grade graded key_in shape_of said_by said acts_from acts_of index_said top_of version_form nodes_said version_said desks_said threads_said heads_said head_named per_desk events_said behind_nodes surveyed survey_from last_from survey_of read_answer head_lines node_place header_size node_size heads_at width_of
desks_short = refl

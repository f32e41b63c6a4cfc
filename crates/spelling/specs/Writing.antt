-- A schedule in words. Entry by entry: N, T, each head line, each node, each event. The form is said where it differs: the version before the head
-- index, one head index per desk with T. An all-zero node has no line, nor has a step like the one before it.
use Rattle.std.specs.Prelude.{ℕ, ◌+◌, ◌-◌, ◌*◌, Bool, true, false, not, List, [], ◌++◌, length, eqb, ltb}
use Rattle.lists.specs.Find.{pick, both, least}
use Rattle.lists.specs.Tab.{over}
use Rattle.lists.specs.Text.{text, decimal}
use Rattle.answer.specs.Answers.{check, accepted, Answer, Taken, NoEnding, Room}
use Rattle.image.specs.Bytes.{at_w}
use Rattle.image.specs.Form.{width_of, heads_at, head_lines, node_place, per_desk}
use Rattle.image.specs.Layout.{form_in, read_content}
use Rattle.image.specs.declared.Content.{Content}
use Rattle.machine.specs.declared.Event.{Event}
use Rattle.schedule.specs.Layout.{threads_in, count_in, nodes_in, image_part, schedule_shape, event_in, schedule_answer}
use Rattle.page.specs.Printed.{newline}
use Rattle.page.specs.Filled.{lines_on, fitting}

-- ---- lines

-- T; #101: `desks` where each of them has a head index
unfoldable pub threads_line : ℕ → ℕ → List ℕ
threads_line f t = pick (per_desk f) (text "desks " ++ decimal t ++ newline) (text "threads " ++ decimal t ++ newline)

-- the version of "UQI" is its form's number
unfoldable pub version_line : ℕ → List ℕ
version_line f = pick (eqb f 1) [] (text "version " ++ decimal f ++ newline)

-- head line k, which a form with several of them names
unfoldable pub head_line : ℕ → ℕ → ℕ → List ℕ
head_line f k x =
    pick (per_desk f) (text "head " ++ decimal k ++ text " " ++ decimal x ++ newline)
    (version_line f ++ (text "head " ++ decimal x ++ newline))

unfoldable pub node_line : ℕ → Content → List ℕ
node_line i v = text "node " ++ decimal i ++ text " " ++ decimal v.linked ++ text " " ++ decimal v.index ++ text " " ++ decimal v.item ++ newline

-- r like events; only steps are joined
unfoldable pub event_line : Event → ℕ → List ℕ
event_line e r =
    pick (eqb e.kind 1) (decimal e.number ++ text " enqueue " ++ decimal e.item ++ newline)
    (pick (both (eqb e.kind 2) (eqb e.item 0)) (decimal e.number ++ text " dequeue" ++ newline)
    (pick (both (eqb e.kind 3) (eqb e.item 0)) (decimal e.number ++ text " step " ++ decimal r ++ newline)
    (pick (both (eqb e.kind 4) (eqb e.item 0)) (text "write-back " ++ decimal e.number ++ newline)
    (pick (both (eqb e.kind 5) (both (eqb e.number 0) (eqb e.item 0))) (text "crash" ++ newline)
    (text "event " ++ decimal e.kind ++ text " " ++ decimal e.number ++ text " " ++ decimal e.item ++ newline)))))

-- ---- entries

abbrev pub image_form : List ℕ → ℕ
image_form s = form_in (image_part s)

-- how many head lines there are
abbrev pub heads_in : List ℕ → ℕ
heads_in s = head_lines (schedule_shape s)

unfoldable pub head_at : List ℕ → ℕ → ℕ
head_at s k = at_w (width_of (image_form s)) (image_part s) (heads_at (image_form s) + k * width_of (image_form s))

abbrev pub node_at : List ℕ → ℕ → Content
node_at s i = read_content (image_form s) (image_part s) (node_place (schedule_shape s) i)

abbrev pub is_blank_node : Content → Bool
is_blank_node v = both (eqb v.linked 0) (both (eqb v.index 0) (eqb v.item 0))

unfoldable pub node_entry : List ℕ → ℕ → List ℕ
node_entry s i = pick (is_blank_node (node_at s i)) [] (node_line i (node_at s i))

abbrev pub is_step : Event → Bool
is_step e = both (eqb e.kind 3) (eqb e.item 0)

-- event j is a step like the one before it
unfoldable pub follows : List ℕ → ℕ → Bool
follows s j = both (ltb 0 j) (both (is_step (event_in s j)) (both (is_step (event_in s (j - 1))) (eqb (event_in s j).number (event_in s (j - 1)).number)))

-- where the run of steps that event j begins ends; j + 1 where it begins none
unfoldable pub run_end : List ℕ → ℕ → ℕ
run_end s j = least (λ i. not (follows s i)) (count_in s - (j + 1)) (j + 1)

unfoldable pub event_entry : List ℕ → ℕ → List ℕ
event_entry s j = pick (follows s j) [] (event_line (event_in s j) (run_end s j - j))

unfoldable pub entry_of : List ℕ → ℕ → List ℕ
entry_of s k =
    pick (eqb k 0) (text "nodes " ++ decimal (nodes_in s) ++ newline)
    (pick (eqb k 1) (threads_line (image_form s) (threads_in s))
    (pick (ltb k (2 + heads_in s)) (head_line (image_form s) (k - 2) (head_at s (k - 2)))
    (pick (ltb k (2 + heads_in s + nodes_in s)) (node_entry s (k - 2 - heads_in s)) (event_entry s (k - 2 - heads_in s - nodes_in s)))))

abbrev pub entries_in : List ℕ → ℕ
entries_in s = 2 + heads_in s + nodes_in s + count_in s

-- the words of a schedule
unfoldable pub words_of : List ℕ → List ℕ
words_of s = lines_on (entry_of s) 0 (entries_in s)

-- ---- as many entries as fit from entry k on, into a lent buffer of `room` bytes

-- the schedule's refusals up to its events; then 16 where there is no entry k, 17 where entry k does not fit
unfoldable pub spell_answer : List ℕ → ℕ → ℕ → Answer
spell_answer s k room = elim (accepted (schedule_answer s)) [
  | true ↦ check (not (ltb k (entries_in s))) NoEnding (check (ltb room (length (entry_of s k))) Room Taken)
  | false ↦ schedule_answer s
]

-- how many entries are written, and their bytes; none on a refusal
unfoldable pub spell_taken : List ℕ → ℕ → ℕ → ℕ
spell_taken s k room = elim (accepted (spell_answer s k room)) [ true ↦ fitting (entry_of s) k (entries_in s - k) room | false ↦ 0 ]

unfoldable pub spell_bytes : List ℕ → ℕ → ℕ → List ℕ
spell_bytes s k room = lines_on (entry_of s) k (spell_taken s k room)

-- what the lent buffer holds then: the bytes behind the lines stay, and on a refusal all of them
unfoldable pub spell_written : List ℕ → ℕ → List ℕ → List ℕ
spell_written s k b = over b 0 (spell_bytes s k (length b))

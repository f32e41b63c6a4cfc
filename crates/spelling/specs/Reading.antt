-- The schedule that a text's lines say, and what is wrong with a text that says none.
use Rattle.std.specs.Prelude.{ℕ, suc, ◌+◌, ◌*◌, Bool, true, false, not, List, [], ◌∷◌, ◌++◌, length, replicate, eqb, ltb, leb, Option, Some, None, is_some, Result, Ok, Err}
use Rattle.lists.specs.Find.{pick}
use Rattle.lists.specs.Tab.{joined, over}
use Rattle.image.specs.Form.{top_of, head_lines, per_desk}
use Rattle.image.specs.declared.Shape.{Shape}
use Rattle.spelling.specs.declared.Act.{Act}
use Rattle.spelling.specs.declared.Act.TheVariants as line_is
use Rattle.spelling.specs.declared.Survey.{Survey}
use Rattle.spelling.specs.declared.Misread.{Misread}
use Rattle.spelling.specs.declared.Misread.TheVariants as why
use Rattle.spelling.specs.Lines.{acts_of}
use Rattle.spelling.specs.Layout.{event_span, said_shape, head_start, node_start, events_place, size_of, rest_of, head_of, head_said, node_said, event_said}

-- ---- what the lines say together

-- the form of the image that a version's number names: "UQI" version 1 or 2, if it names one
unfoldable pub version_form : ℕ → Option ℕ
version_form x = pick (eqb x 1) (Some 1) (pick (eqb x 2) (Some 2) None)

-- #101: the form with one head index per desk, which `desks` names
abbrev pub desks_form : ℕ
desks_form = 4

-- T is 1 and the version 1 where no line says it
abbrev pub no_survey : Survey
no_survey = record { fault = None; begun = false; settled = false; form = 1; n = 0; t = 1; count = 0 }

abbrev pub faulted : Survey → Misread → Survey
faulted v e = record { fault = Some e; begun = v.begun; settled = v.settled; form = v.form; n = v.n; t = v.t; count = v.count }

abbrev pub with_nodes : Survey → ℕ → Survey
with_nodes v x = record { fault = v.fault; begun = true; settled = v.settled; form = v.form; n = x; t = v.t; count = v.count }

abbrev pub with_threads : Survey → ℕ → Survey
with_threads v x = record { fault = v.fault; begun = v.begun; settled = v.settled; form = v.form; n = v.n; t = x; count = v.count }

-- an index was said: what it may be is known from here on
abbrev pub with_index : Survey → Survey
with_index v = record { fault = v.fault; begun = v.begun; settled = true; form = v.form; n = v.n; t = v.t; count = v.count }

abbrev pub with_form : Survey → ℕ → Survey
with_form v x = record { fault = v.fault; begun = v.begun; settled = true; form = x; n = v.n; t = v.t; count = v.count }

abbrev pub with_desks : Survey → ℕ → Survey
with_desks v x = record { fault = v.fault; begun = v.begun; settled = true; form = desks_form; n = v.n; t = x; count = v.count }

abbrev pub with_events : Survey → ℕ → Survey
with_events v x = record { fault = v.fault; begun = v.begun; settled = v.settled; form = v.form; n = v.n; t = v.t; count = v.count + x }

-- the index that a line says; 0 where it says none
unfoldable pub index_said : Act → ℕ
index_said (line_is.Head k x) = x
index_said (line_is.Node i l x v) = x
index_said _ = 0

-- `nodes`: it stands once
unfoldable pub nodes_said : ℕ → Survey → ℕ → Survey
nodes_said i v x = pick v.begun (faulted v (why.Strange i)) (pick (ltb 255 x) (faulted v (why.Large i)) (with_nodes v x))

-- `version`: one that is known, once, and before every index
unfoldable pub version_said : ℕ → Survey → ℕ → Survey
version_said i v x = pick v.settled (faulted v (why.Strange i)) (elim (version_form x) [ Some f ↦ with_form v f | None ↦ faulted v (why.Strange i) ])

-- `desks`: in place of `version`, and of `threads` from here on
unfoldable pub desks_said : ℕ → Survey → ℕ → Survey
desks_said i v x = pick v.settled (faulted v (why.Strange i)) (with_desks v x)

unfoldable pub threads_said : ℕ → Survey → ℕ → Survey
threads_said i v x = pick (per_desk v.form) (faulted v (why.Strange i)) (with_threads v x)

-- whether a line `head` names one of several head lines: not where there is only one
unfoldable pub head_named : ℕ → Bool
head_named f = per_desk f

-- an index of head line k, if there is one
abbrev pub head_at : ℕ → Survey → ℕ → Survey
head_at i v k = pick (ltb k (head_lines (said_shape v))) (with_index v) (faulted v (why.Large i))

-- `head`: it names the head line where there are several, and only there
unfoldable pub heads_said : ℕ → Survey → Option ℕ → Survey
heads_said i v (Some k) = pick (head_named v.form) (head_at i v k) (faulted v (why.Strange i))
heads_said i v None = pick (head_named v.form) (faulted v (why.Strange i)) (head_at i v 0)

-- x events more: there are at most 65,535
unfoldable pub events_said : ℕ → Survey → ℕ → Survey
events_said i v x = pick (leb (v.count + x) 65535) (with_events v x) (faulted v (why.Many i))

-- a line behind `nodes`: a node's number is below N
unfoldable pub behind_nodes : ℕ → Survey → Act → Survey
behind_nodes i v (line_is.Threads x) = threads_said i v x
behind_nodes i v (line_is.Head k x) = heads_said i v k
behind_nodes i v (line_is.Node n l x d) = pick (ltb n v.n) (with_index v) (faulted v (why.Large i))
behind_nodes i v (line_is.Events k n d c) = events_said i v c
behind_nodes i v (line_is.Version x) = version_said i v x
behind_nodes i v (line_is.Desks x) = desks_said i v x
behind_nodes i v _ = faulted v (why.Strange i)

-- `nodes` stands before all others
abbrev pub in_order : ℕ → Survey → Act → Survey
in_order i v (line_is.Nodes x) = nodes_said i v x
in_order i v a = pick v.begun (behind_nodes i v a) (faulted v (why.Strange i))

-- a line's index fits the form
abbrev pub narrow : ℕ → Survey → Act → Survey
narrow i v line_is.Nothing = v
narrow i v line_is.TooLarge = faulted v (why.Large i)
narrow i v a = pick (ltb (top_of v.form) (index_said a)) (faulted v (why.Large i)) (in_order i v a)

-- line i says a. The first fault stays
unfoldable pub surveyed : ℕ → Survey → Act → Survey
surveyed i v a = pick (is_some v.fault) v (narrow i v a)

unfoldable pub survey_from : ℕ → Survey → List Act → Survey
survey_from i v [] = v
survey_from i v (a ∷ l) = survey_from (suc i) (surveyed i v a) l

-- the number of the last line
unfoldable pub last_from : ℕ → List Act → ℕ
last_from i [] = i
last_from i (a ∷ []) = i
last_from i (a ∷ b ∷ l) = last_from (suc i) (b ∷ l)

unfoldable pub survey_of : List ℕ → Survey
survey_of t = survey_from 0 no_survey (acts_of t)

-- ---- the bytes

-- the schedule with zeros for its head lines, nodes and events
unfoldable pub blank_file : Survey → List ℕ
blank_file v = head_of v ++ replicate (rest_of v) 0

unfoldable pub times : ℕ → List ℕ → List ℕ
times d l = joined (λ i. l) d

-- the head line that a line `head` is about
abbrev pub line_named : Option ℕ → ℕ
line_named (Some k) = k
line_named None = 0

-- what a line puts into a file of z bytes, with an image in shape g, whose events reach up to p; and up to where they then reach. What does not fit
-- is not put: where no line is at fault everything fits
unfoldable pub put_by : Shape → ℕ → List ℕ → ℕ → Act → List ℕ
put_by g z x p (line_is.Head k y) = pick (ltb (line_named k) (head_lines g)) (over x (head_start g.form (line_named k)) (head_said g.form y)) x
put_by g z x p (line_is.Node i l y v) = pick (ltb i g.n) (over x (node_start g i) (node_said g.form l y v)) x
put_by g z x p (line_is.Events k n v d) = pick (leb (p + d * event_span) z) (over x p (times d (event_said k n v))) x
put_by g z x p _ = x

unfoldable pub reach_by : ℕ → ℕ → Act → ℕ
reach_by z p (line_is.Events k n v d) = pick (leb (p + d * event_span) z) (p + d * event_span) p
reach_by z p _ = p

unfoldable pub put_all : Shape → ℕ → List ℕ → ℕ → List Act → List ℕ
put_all g z x p [] = x
put_all g z x p (a ∷ l) = put_all g z (put_by g z x p a) (reach_by z p a) l

-- the schedule that a text says
unfoldable pub file_of : List ℕ → List ℕ
file_of t = let v = survey_of t in put_all (said_shape v) (size_of v) (blank_file v) (events_place v) (acts_of t)

-- ---- answers

-- what reading words answers: that they are taken, or why they are no schedule
abbrev pub Said : Type 0
Said = Result Unit Misread

abbrev pub Taken : Said
Taken = Ok tt

abbrev pub Strange : ℕ → Said
Strange i = Err (why.Strange i)

abbrev pub Large : ℕ → Said
Large i = Err (why.Large i)

abbrev pub Many : ℕ → Said
Many i = Err (why.Many i)

abbrev pub Room : Said
Room = Err why.Room

-- the number of each answer, and the line it names
pub record Tells : Type 0 where
  pub number : ℕ
  pub line : ℕ

abbrev pub tells_misread : Misread → Tells
tells_misread (why.Strange i) = record { number = 1; line = i }
tells_misread (why.Large i) = record { number = 2; line = i }
tells_misread (why.Many i) = record { number = 3; line = i }
tells_misread why.Room = record { number = 4; line = 0 }

abbrev pub tells : Said → Tells
tells (Ok u) = record { number = 0; line = 0 }
tells (Err e) = tells_misread e

-- a fault, or what is answered where there is none
abbrev pub unless : Option Misread → Said → Said
unless (Some e) a = Err e
unless None a = a

-- the first fault; then a text with no line that says anything, at its last line; then a lent buffer that is too short
unfoldable pub read_answer : List ℕ → ℕ → Said
read_answer t room =
    let v = survey_of t in
    unless v.fault (pick (not v.begun) (Strange (last_from 0 (acts_of t))) (pick (ltb room (size_of v)) Room Taken))

abbrev pub is_taken : Said → Bool
is_taken a = eqb (tells a).number 0

unfoldable pub read_bytes : List ℕ → ℕ → ℕ
read_bytes t room = pick (is_taken (read_answer t room)) (size_of (survey_of t)) 0

-- what the call gives: how many bytes the schedule has, or why there is none
abbrev pub spelt : Said → ℕ → Result ℕ Misread
spelt (Ok u) n = Ok n
spelt (Err e) n = Err e

-- what the lent buffer holds then: the schedule in its first bytes, the rest as it was; on a refusal all as it was
unfoldable pub read_written : List ℕ → List ℕ → List ℕ
read_written t b = pick (is_taken (read_answer t (length b))) (over b 0 (file_of t)) b

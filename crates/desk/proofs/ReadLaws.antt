-- What reading words gives, by what the lines of the text say.
use Prim.Native.Nat.{ℕ, suc, ◌+◌, ◌≤◌, ◌<◌}
use mathlib.Core.Path.{◌≡◌, refl, sym, ap, ◌∙◌}
use mathlib.Core.Bool.{Bool, true, false}
use mathlib.Core.List.{List, [], ◌∷◌}
use native.Mathlib.Omega.{arith}
use borrow.Author.Tests.{leb-true, lt-ltb, le-ltb}
use lib.ListN.{length}
use lib.Dec.{eqb, ltb, leb}
use Rattle.lists.specs.Find.{pick}
use Rattle.lists.specs.Tab.{over}
use Rattle.image.specs.Form.{known, per_desk, top_of, head_lines}
use Rattle.spelling.specs.declared.Act.{Act}
use Rattle.spelling.specs.declared.Act.TheVariants as line_is
use Rattle.spelling.specs.declared.Survey.{Survey}
use Rattle.std.specs.Prelude.{Option, Some, None, is_some, Result, Ok, Err}
use Rattle.spelling.specs.declared.Misread.{Misread}
use Rattle.spelling.specs.declared.Misread.TheVariants as why
use Rattle.spelling.specs.Lines.{acts_of}
use Rattle.spelling.specs.Layout.{said_shape, size_of, events_place}
use Rattle.spelling.specs.Reading.{no_survey, faulted, with_nodes, with_threads, with_index, with_form, with_desks, with_events, version_form, head_named, head_at, index_said, in_order, narrow, nodes_said, version_said, desks_said, threads_said, heads_said, events_said, behind_nodes, surveyed, survey_from, survey_of, last_from, blank_file, put_all, file_of, Taken, Strange, Room, is_taken, read_answer, read_bytes, spelt, read_written}
use Rattle.wordreader.proofs.PutLaws as puts

-- ---- the form stays one that is known, and the event count within its bound

abbrev pub Within : Survey → Type 0
Within v = (known v.form ≡ true) × (v.count ≤ 65535)

either : (b : Bool) (x y : Survey) → Within x → Within y → Within (pick b x y)
either true x y p q = p
either false x y p q = q

nodes_within : (i : ℕ) (v : Survey) (x : ℕ) → Within v → Within (nodes_said i v x)
unfolding nodes_said
nodes_within i v x w = either v.begun (faulted v (why.Strange i)) _ w (either (ltb 255 x) (faulted v (why.Large i)) (with_nodes v x) w w)

events_within : (i : ℕ) (v : Survey) (x : ℕ) → Within v → Within (events_said i v x)
unfolding events_said
events_within i v x w = by (leb (v.count + x) 65535) refl
  where
    by : (b : Bool) → leb (v.count + x) 65535 ≡ b → Within (pick b (with_events v x) (faulted v (why.Many i)))
    by true e = (w.0, leb-true (v.count + x) 65535 e)
    by false e = w

-- a version that words may say names a form that is known, and `desks` does
version_within : (i : ℕ) (v : Survey) (x : ℕ) → Within v → Within (version_said i v x)
unfolding version_said version_form known
version_within i v x w = either v.settled (faulted v (why.Strange i)) _ w (by (eqb x 1) (eqb x 2))
  where
    by : (a b : Bool) → Within (elim (pick {A = Option ℕ} a (Some 1) (pick {A = Option ℕ} b (Some 2) None)) as (λ _. Survey) [ Some f ↦ with_form v f | None ↦ faulted v (why.Strange i) ])
    by true b = (refl, w.1)
    by false true = (refl, w.1)
    by false false = w

desks_within : (i : ℕ) (v : Survey) (x : ℕ) → Within v → Within (desks_said i v x)
unfolding desks_said known
desks_within i v x w = either v.settled (faulted v (why.Strange i)) (with_desks v x) w (refl, w.1)

threads_within : (i : ℕ) (v : Survey) (x : ℕ) → Within v → Within (threads_said i v x)
unfolding threads_said
threads_within i v x w = either (per_desk v.form) (faulted v (why.Strange i)) (with_threads v x) w w

at_within : (i : ℕ) (v : Survey) (k : ℕ) → Within v → Within (head_at i v k)
at_within i v k w = either (ltb k (head_lines (said_shape v))) (with_index v) (faulted v (why.Large i)) w w

heads_within : (i : ℕ) (v : Survey) (k : Option ℕ) → Within v → Within (heads_said i v k)
unfolding heads_said
heads_within i v (Some k) w = either (head_named v.form) (head_at i v k) (faulted v (why.Strange i)) (at_within i v k w) w
heads_within i v None w = either (head_named v.form) (faulted v (why.Strange i)) (head_at i v 0) w (at_within i v 0 w)

behind_within : (i : ℕ) (v : Survey) (a : Act) → Within v → Within (behind_nodes i v a)
unfolding behind_nodes
behind_within i v (line_is.Threads x) w = threads_within i v x w
behind_within i v (line_is.Head k x) w = heads_within i v k w
behind_within i v (line_is.Node n l x d) w = either (ltb n v.n) (with_index v) (faulted v (why.Large i)) w w
behind_within i v (line_is.Events k n d c) w = events_within i v c w
behind_within i v (line_is.Version x) w = version_within i v x w
behind_within i v (line_is.Desks x) w = desks_within i v x w
behind_within i v line_is.Nothing w = w
behind_within i v (line_is.Nodes x) w = w
behind_within i v line_is.Unknown w = w
behind_within i v line_is.TooLarge w = w

begun_within : (i : ℕ) (v : Survey) (a : Act) → Within v → Within (pick v.begun (behind_nodes i v a) (faulted v (why.Strange i)))
begun_within i v a w = either v.begun (behind_nodes i v a) (faulted v (why.Strange i)) (behind_within i v a w) w

order_within : (i : ℕ) (v : Survey) (a : Act) → Within v → Within (in_order i v a)
order_within i v (line_is.Nodes x) w = nodes_within i v x w
order_within i v (line_is.Threads x) w = begun_within i v (line_is.Threads x) w
order_within i v (line_is.Head k x) w = begun_within i v (line_is.Head k x) w
order_within i v (line_is.Node n l x d) w = begun_within i v (line_is.Node n l x d) w
order_within i v (line_is.Events k n d c) w = begun_within i v (line_is.Events k n d c) w
order_within i v (line_is.Version x) w = begun_within i v (line_is.Version x) w
order_within i v (line_is.Desks x) w = begun_within i v (line_is.Desks x) w
order_within i v line_is.Nothing w = begun_within i v line_is.Nothing w
order_within i v line_is.Unknown w = begun_within i v line_is.Unknown w
order_within i v line_is.TooLarge w = begun_within i v line_is.TooLarge w

index_within : (i : ℕ) (v : Survey) (a : Act) → Within v → Within (pick (ltb (top_of v.form) (index_said a)) (faulted v (why.Large i)) (in_order i v a))
index_within i v a w = either (ltb (top_of v.form) (index_said a)) (faulted v (why.Large i)) (in_order i v a) w (order_within i v a w)

narrow_within : (i : ℕ) (v : Survey) (a : Act) → Within v → Within (narrow i v a)
narrow_within i v line_is.Nothing w = w
narrow_within i v line_is.TooLarge w = w
narrow_within i v (line_is.Nodes x) w = index_within i v (line_is.Nodes x) w
narrow_within i v (line_is.Threads x) w = index_within i v (line_is.Threads x) w
narrow_within i v (line_is.Head k x) w = index_within i v (line_is.Head k x) w
narrow_within i v (line_is.Node n l x d) w = index_within i v (line_is.Node n l x d) w
narrow_within i v (line_is.Events k n d c) w = index_within i v (line_is.Events k n d c) w
narrow_within i v (line_is.Version x) w = index_within i v (line_is.Version x) w
narrow_within i v (line_is.Desks x) w = index_within i v (line_is.Desks x) w
narrow_within i v line_is.Unknown w = index_within i v line_is.Unknown w

surveyed_within : (i : ℕ) (v : Survey) (a : Act) → Within v → Within (surveyed i v a)
unfolding surveyed
surveyed_within i v a w = either (is_some v.fault) v (narrow i v a) w (narrow_within i v a w)

from_within : (i : ℕ) (v : Survey) (l : List Act) → Within v → Within (survey_from i v l)
unfolding survey_from
from_within i v [] w = w
from_within i v (a ∷ l) w = from_within (suc i) (surveyed i v a) l (surveyed_within i v a w)

pub survey_within : (t : List ℕ) → Within (survey_of t)
unfolding survey_of known
survey_within t = from_within 0 no_survey (acts_of t) (refl, omega arith)

pub known_count : (t : List ℕ) (v : Survey) → v ≡ survey_of t → (known v.form ≡ true) × (v.count ≤ 65535)
known_count t v e =
    let w = survey_within t in
    (ap (λ (z : Survey). known z.form) e ∙ w.0, omega (arith, ap (λ (z : Survey). z.count) e, w.1))

-- ---- the answer

pub refused : (e : Misread) → is_taken (Err e) ≡ false
refused (why.Strange i) = refl
refused (why.Large i) = refl
refused (why.Many i) = refl
refused why.Room = refl

module _ (t : List ℕ) (room : ℕ) where
  pub faulty : (e : Misread) → (survey_of t).fault ≡ Some e → read_answer t room ≡ Err e
  unfolding read_answer
  faulty e h = rw h

  pub unbegun : (survey_of t).fault ≡ None → (survey_of t).begun ≡ false → read_answer t room ≡ Strange (last_from 0 (acts_of t))
  unfolding read_answer
  unbegun h b = rw (h, b)

  pub no_room : (survey_of t).fault ≡ None → (survey_of t).begun ≡ true → room < size_of (survey_of t) → read_answer t room ≡ Room
  unfolding read_answer
  no_room h b l = rw (h, b, lt-ltb room (size_of (survey_of t)) l)

  pub fits : (survey_of t).fault ≡ None → (survey_of t).begun ≡ true → size_of (survey_of t) ≤ room → read_answer t room ≡ Taken
  unfolding read_answer
  fits h b l = rw (h, b, le-ltb room (size_of (survey_of t)) l)

-- ---- what is given

pub bytes_none : (t : List ℕ) (room : ℕ) → is_taken (read_answer t room) ≡ false → read_bytes t room ≡ 0
unfolding read_bytes
bytes_none t room h = rw h

pub bytes_some : (t : List ℕ) (room : ℕ) → is_taken (read_answer t room) ≡ true → read_bytes t room ≡ size_of (survey_of t)
unfolding read_bytes
bytes_some t room h = rw h

pub written_none : (t b : List ℕ) → is_taken (read_answer t (length b)) ≡ false → read_written t b ≡ b
unfolding read_written
written_none t b h = rw h

pub written_some : (t b : List ℕ) → is_taken (read_answer t (length b)) ≡ true → read_written t b ≡ over b 0 (file_of t)
unfolding read_written
written_some t b h = rw h

file_of_lem : (t : List ℕ) (v : Survey) → v ≡ survey_of t → put_all (said_shape v) (size_of v) (blank_file v) (events_place v) (acts_of t) ≡ file_of t
unfolding file_of
file_of_lem t v e = ap (λ (v : Survey). put_all (said_shape v) (size_of v) (blank_file v) (events_place v) (acts_of t)) e

module _ (t b : List ℕ) where
  abbrev pub Gives : Result ℕ Misread → List ℕ → Type 0
  Gives r m = (r ≡ spelt (read_answer t (length b)) (read_bytes t (length b))) × (m ≡ read_written t b)

  pub gives_none : (e : Misread) → read_answer t (length b) ≡ Err e → Gives (Err e) b
  gives_none e h = (ap (λ a. spelt a (read_bytes t (length b))) (sym h), sym (written_none t b (ap is_taken h ∙ refused e)))

  pub gives_some : (v : Survey) (m x : List ℕ) → v ≡ survey_of t → known v.form ≡ true → read_answer t (length b) ≡ Taken → size_of v ≤ length b
      → x ≡ over b 0 (blank_file v) → m ≡ put_all (said_shape v) (size_of v) x (events_place v) (acts_of t) → Gives (Ok (size_of v)) m
  gives_some v m x e f h l p q = (
    ap Ok (ap size_of e ∙ sym (bytes_some t (length b) (ap is_taken h))) ∙ ap (λ a. spelt a (read_bytes t (length b))) (sym h),
    q ∙ ap (λ y. put_all (said_shape v) (size_of v) y (events_place v) (acts_of t)) p
        ∙ puts.all_front b (said_shape v) (size_of v) f (omega arith) l (blank_file v) (events_place v) (acts_of t) (puts.length_blank v f)
        ∙ ap (over b 0) (file_of_lem t v e)
        ∙ sym (written_some t b (ap is_taken h)),
  )

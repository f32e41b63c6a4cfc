-- An event's line by its kind, whether an event follows another, and the entries of a schedule that is taken up to its events.
use Prim.Native.Nat.{ℕ, ◌+◌, ◌-◌, ◌*◌, ◌≤◌, ◌<◌}
use mathlib.Core.Path.{◌≡◌, refl, sym, ap, ap₂, ◌∙◌}
use mathlib.Core.Bool.{Bool, true, false, not}
use mathlib.Core.List.{List, [], ◌++◌, append_assoc}
use native.Mathlib.Omega.{arith}
use borrow.Author.Tests.{eq-eqb, ne_eqb, lt-ltb, le-ltb}
use lib.ListN.{length, length-drop}
use lib.Dec.{eqb}
use Rattle.lists.specs.Find.{pick, least}
use Rattle.lists.specs.Text.{text, decimal}
use Rattle.lists.proofs.FindLaws.{least_next, least_hit, least_end}
use Rattle.lists.proofs.TabLaws as tabs
use Rattle.answer.specs.Answers.{accepted}
use Rattle.image.specs.Bytes.{at_w}
use Rattle.image.specs.Form.{known, width_of, heads_at, head_lines, node_place, per_desk}
use Rattle.image.specs.declared.Content.{Content}
use Rattle.image.specs.declared.Shape.{Shape}
use Rattle.image.specs.Layout.{no_contents, no_content, content_at, read_content, read_nodes, head_in, read_heads, shape_in, image_in}
use Rattle.image.specs.Refusals.{agree}
use Rattle.image.proofs.HeadLaws.{heads_at_lem}
use Rattle.machine.specs.declared.Event.{Event}
use Rattle.schedule.specs.Layout.{threads_in, count_in, nodes_in, image_part, schedule_shape, event_from, event_in, event_place, schedule_in, schedule_answer}
use Rattle.schedule.specs.declared.Schedule.{Schedule}
use Rattle.page.specs.Printed.{newline}
use Rattle.codec.proofs.Accepted as acc
use Rattle.spelling.proofs.PlaceLaws as places
use Rattle.spelling.specs.Writing.{threads_line, version_line, head_line, node_line, event_line, image_form, heads_in, head_at, is_blank_node, is_step, follows, run_end, node_at, node_entry, event_entry, entry_of}

-- ---- the version's line

pub version_none : (f : ℕ) → f ≡ 1 → version_line f ≡ []
unfolding version_line
version_none f e = rw e

pub version_some : (f : ℕ) → (f ≡ 1 → ⊥) → version_line f ≡ text "version " ++ decimal f ++ newline
unfolding version_line
version_some f e = rw (ne_eqb f 1 e)

-- the head's line behind it
pub sole_line : (f x : ℕ) → version_line f ++ (text "head " ++ decimal x ++ newline) ≡ version_line f ++ (text "head " ++ decimal x) ++ newline
sole_line f x = sym (append_assoc (version_line f) (text "head " ++ decimal x) newline)

-- the event that the code reads, by the schedule's shape
pub event_is : (s : List ℕ) (z : Shape) (j : ℕ) → z ≡ schedule_shape s → event_from s (event_place z j) ≡ event_in s j
event_is s z j e = ap (λ (z : Shape). event_from s (event_place z j)) e

-- ---- where a run ends: one turn of the search

module _ (s : List ℕ) where
  abbrev pub ends : ℕ → ℕ → ℕ
  ends c i = least (λ k. not (follows s k)) (c - i) i

  pub ends_first : (j : ℕ) → run_end s j ≡ ends (count_in s) (j + 1)
  unfolding run_end
  ends_first j = refl

  pub ends_next : (c i : ℕ) → i < c → follows s i ≡ true → ends c i ≡ ends c (i + 1)
  ends_next c i h e = least_next (λ k. not (follows s k)) c i h (ap not e)

  pub ends_here : (c i : ℕ) → i < c → follows s i ≡ false → ends c i ≡ i
  ends_here c i h e = least_hit (λ k. not (follows s k)) c i h (ap not e)

  pub ends_last : (c i : ℕ) → c ≤ i → ends c i ≡ i
  ends_last c i h = least_end (λ k. not (follows s k)) c i h

-- ---- entries

module _ (s : List ℕ) (h : accepted (schedule_answer s) ≡ true) where
  pub few : nodes_in s ≤ 64
  few = acc.nodes_most (nodes_in s) (acc.schedule_taken s h).part.nodes

  pub short : count_in s ≤ 4096
  short = (acc.schedule_taken s h).count

  pub form : known (image_form s) ≡ true
  form = (acc.schedule_taken s h).part.mark

  agrees : agree (threads_in s) (shape_in (image_part s)) ≡ true
  agrees = (acc.schedule_taken s h).part.shape.agrees

  pub lines_few : heads_in s ≤ 8
  lines_few = places.heads_few s (acc.schedule_taken s h).threads

  pub events_fit : event_place (schedule_shape s) (count_in s) ≤ length s
  events_fit =
      let t = acc.schedule_taken s h in
      omega (arith, t.long, t.part.size, acc.schedule_size s h, length-drop 8 s)

module _ (s : List ℕ) (d : Schedule) (e : d ≡ schedule_in s) where
  pub threads_is : d.t ≡ threads_in s
  unfolding schedule_in
  threads_is = ap (λ (z : Schedule). z.t) e

  pub count_is : d.count ≡ count_in s
  unfolding schedule_in
  count_is = ap (λ (z : Schedule). z.count) e

  pub nodes_is : d.image.n ≡ nodes_in s
  unfolding schedule_in image_in shape_in
  nodes_is = ap (λ (z : Schedule). z.image.n) e

  pub form_is : d.image.form ≡ image_form s
  unfolding schedule_in image_in shape_in
  form_is = ap (λ (z : Schedule). z.image.form) e

  -- the shape that the code makes
  abbrev pub made_shape : Shape
  made_shape = record { form = d.image.form; n = d.image.n; t = d.t }

  pub shape_is : made_shape ≡ schedule_shape s
  unfolding schedule_in image_in shape_in
  shape_is = ap (λ (z : Schedule). record { form = z.image.form; n = z.image.n; t = z.t }) e

  pub lines_is : (r : ℕ) → r ≡ head_lines made_shape → r ≡ heads_in s
  lines_is r p = p ∙ ap head_lines shape_is

  module _ (h : accepted (schedule_answer s) ≡ true) where
    pub head_is : (k : ℕ) → k < heads_in s → head_in d.image k ≡ head_at s k
    unfolding schedule_in image_in shape_in read_heads head_at
    head_is k p =
        let w = width_of (image_form s) in
        ap (λ (z : Schedule). head_in z.image k) e
        ∙ heads_at_lem (shape_in (image_part s)) (λ k. at_w w (image_part s) (heads_at (image_form s) + k * w)) k (omega (arith, places.lines_same s (agrees s h)))

    pub node_is : (i : ℕ) → i < nodes_in s → content_at d.image.nodes i ≡ node_at s i
    unfolding schedule_in image_in shape_in read_nodes
    node_is i p =
        ap (λ (z : Schedule). content_at z.image.nodes i) e
        ∙ tabs.front_at (λ k. read_content (image_form s) (image_part s) (node_place (shape_in (image_part s)) k)) (nodes_in s) no_contents i no_content p
        ∙ ap (read_content (image_form s) (image_part s)) (places.place_same s (agrees s h) i)

module _ (s : List ℕ) (j : ℕ) where
  pub entry_follows : follows s j ≡ true → event_entry s j ≡ []
  unfolding event_entry
  entry_follows e = rw e

  pub entry_leads : (v : Event) (r : ℕ) → v ≡ event_in s j → r ≡ run_end s j → follows s j ≡ false → event_entry s j ≡ event_line v (r - j)
  unfolding event_entry
  entry_leads v r x y e = rw e (ap₂ (λ (z : Event) (q : ℕ). event_line z (q - j)) (sym x) (sym y))

module _ (s : List ℕ) (k : ℕ) where
  pub entry_nodes : (n : ℕ) → n ≡ nodes_in s → k ≡ 0 → entry_of s k ≡ text "nodes " ++ decimal n ++ newline
  unfolding entry_of
  entry_nodes n e h = rw h (ap (λ z. text "nodes " ++ decimal z ++ newline) (sym e))

  pub entry_threads : (f n : ℕ) → f ≡ image_form s → n ≡ threads_in s → k ≡ 1 → entry_of s k ≡ threads_line f n
  unfolding entry_of
  entry_threads f n e g h = rw h (ap₂ threads_line (sym e) (sym g))

  -- behind them, with the h entries that lead there
  module _ (h : ℕ) (p : h ≡ 2 + heads_in s) (a : k ≡ 0 → ⊥) (b : k ≡ 1 → ⊥) where
    pub entry_head : (f x : ℕ) → f ≡ image_form s → x ≡ head_at s (k - 2) → k < h → entry_of s k ≡ head_line f (k - 2) x
    unfolding entry_of
    entry_head f x e g l =
        rw (ne_eqb k 0 a, ne_eqb k 1 b, lt-ltb k (2 + heads_in s) (omega arith)) (ap₂ (λ f x. head_line f (k - 2) x) (sym e) (sym g))

    pub entry_node : (v : Content) → v ≡ node_at s (k - h) → h ≤ k → k < h + nodes_in s → entry_of s k ≡ pick (is_blank_node v) [] (node_line (k - h) v)
    unfolding entry_of node_entry
    entry_node v e c l =
        let q : k - 2 - heads_in s ≡ k - h = omega arith in
        rw (ne_eqb k 0 a, ne_eqb k 1 b, le-ltb k (2 + heads_in s) (omega arith), lt-ltb k (2 + heads_in s + nodes_in s) (omega arith), q)
        (ap (λ (z : Content). pick (is_blank_node z) [] (node_line (k - h) z)) (sym e))

    pub entry_event : (n : ℕ) → n ≡ nodes_in s → h + n ≤ k → entry_of s k ≡ event_entry s (k - h - n)
    unfolding entry_of
    entry_event n e l =
        let q : k - 2 - heads_in s ≡ k - h = omega arith in
        rw (ne_eqb k 0 a, ne_eqb k 1 b, le-ltb k (2 + heads_in s) (omega arith), le-ltb k (2 + heads_in s + nodes_in s) (omega arith)) (ap₂ (λ i m. event_entry s (i - m)) q (sym e))

-- What the lines of a schedule put before its nodes: the marks, and the index of each head line, one behind the other.
use Prim.Native.Nat.{ℕ, zero, suc, ◌+◌, ◌-◌, ◌*◌, ◌/◌, ◌%◌, ◌≤◌, ◌<◌}
use mathlib.Core.Path.{◌≡◌, refl, sym, ap, ap₂, ◌∙◌}
use mathlib.Core.Bool.{Bool, true, false}
use mathlib.Core.List.{List, [], ◌∷◌, ◌++◌}
use native.Mathlib.Omega.{arith}
use native.Mathlib.Nat.{add-mul, one-mul, zero-mul}
use native.Mathlib.Numerals.{add-one}
use borrow.Author.Tests.{lt-ltb}
use lib.ListN.{length, get_or, take, drop, length-drop}
use lib.Seq.{drop-drop, take-add}
use lib.Dec.{eqb}
use Rattle.lists.specs.Find.{pick}
use Rattle.lists.specs.Tab.{tab, joined, over}
use Rattle.lists.proofs.TabLaws as tabs
use Rattle.answer.specs.Answers.{accepted}
use Rattle.image.specs.Bytes.{le}
use Rattle.image.specs.Form.{known, per_desk, width_of, heads_at, header_size}
use Rattle.image.specs.Layout.{shape_in, mark_bytes}
use Rattle.image.specs.declared.Shape.{Shape}
use Rattle.schedule.specs.Layout.{threads_in, count_in, nodes_in, image_part, schedule_shape, schedule_answer}
use Rattle.image.proofs.ByteLaws as num
use Rattle.image.proofs.FormLaws as forms
use Rattle.codec.proofs.Accepted as acc
use Rattle.codec.proofs.Shapes as shapes
use Rattle.spelling.specs.declared.Act.{Act}
use Rattle.std.specs.Prelude.{Option, Some, None}
use Rattle.spelling.specs.declared.Act.TheVariants as line_is
use Rattle.spelling.specs.Layout.{said_shape, head_start, node_start, span_of, head_of}
use Rattle.spelling.specs.Reading.{line_named, blank_file, put_by, reach_by, put_all}
use Rattle.spelling.specs.Writing.{image_form, heads_in, head_at}
use Rattle.spelling.proofs.PlaceLaws as places
use Rattle.spellproof.proofs.Acts as acts
use Rattle.spellproof.proofs.Parts.{byte2, marks_of, mark_there}
use Rattle.spellproof.proofs.Surveys as saying
use Rattle.spellproof.proofs.Zeroed as zeroed

-- ---- lines one after the other

unfoldable pub reach_all : ℕ → ℕ → List Act → ℕ
reach_all z p [] = p
reach_all z p (a ∷ l) = reach_all z (reach_by z p a) l

pub put_also : (g : Shape) (z : ℕ) (x : List ℕ) (p : ℕ) (a b : List Act) → put_all g z x p (a ++ b) ≡ put_all g z (put_all g z x p a) (reach_all z p a) b
unfolding put_all reach_all
put_also g z x p [] b = refl
put_also g z x p (y ∷ a) b = put_also g z (put_by g z x p y) (reach_by z p y) a b

pub reach_also : (z p : ℕ) (a b : List Act) → reach_all z p (a ++ b) ≡ reach_all z (reach_all z p a) b
unfolding reach_all
reach_also z p [] b = refl
reach_also z p (y ∷ a) b = reach_also z (reach_by z p y) a b

-- lines that put no events
pub reach_joined : (z p : ℕ) (f : ℕ → List Act) (m : ℕ) → ((k : ℕ) → reach_all z p (f k) ≡ p) → reach_all z p (joined f m) ≡ p
unfolding joined reach_all
reach_joined z p f zero h = refl
reach_joined z p f (suc m) h = reach_also z p (joined f m) (f m) ∙ ap (λ q. reach_all z q (f m)) (reach_joined z p f m h) ∙ h m

module _ (s : List ℕ) (bs : num.Bytes s) (h : accepted (schedule_answer s) ≡ true) where
  abbrev pub taken : acc.ScheduleTaken s
  taken = acc.schedule_taken s h

  -- the image's form, the schedule's shape, and where its nodes stand
  abbrev pub F : ℕ
  F = image_form s

  pub kf : known F ≡ true
  kf = saying.known_form s bs h

  abbrev pub G : Shape
  G = schedule_shape s

  pub shape_said : (c : ℕ) → said_shape (saying.surveys s bs h c) ≡ G
  shape_said c =
      let n : nodes_in s % 256 ≡ nodes_in s = omega (arith, saying.few s bs h) in
      let t : threads_in s % 256 ≡ threads_in s = omega (arith, bs 5) in
      ap₂ (λ (n t : ℕ). record { form = F; n = n; t = t }) n t

  abbrev pub at : ℕ → ℕ
  at i = node_start G i

  pub size : length s ≡ at (nodes_in s) + count_in s * 6
  size = omega (arith, taken.long, taken.part.size, places.size_same s taken.part.shape.agrees, length-drop 8 s)

  -- ---- the bytes

  eight : 85 ∷ 81 ∷ 83 ∷ 1 ∷ 0 ∷ threads_in s % 256 ∷ count_in s % 256 ∷ count_in s / 256 % 256 ∷ [] ≡ take 8 s
  unfolding tab
  eight =
      let m = marks_of s 83 taken.mark in
      let t : threads_in s % 256 ≡ get_or s 5 0 = omega (arith, bs 5) in
      let c = byte2 s 6 bs (omega (arith, taken.long)) in
      let c0 : count_in s % 256 ≡ get_or s 6 0 = ap (λ l. get_or l 0 0) c in
      let c1 : count_in s / 256 % 256 ≡ get_or s 7 0 = ap (λ l. get_or l 1 0) c in
      rw (t, c0, c1) (sym (rw (m.m0, m.m1, m.m2, m.m3, m.m4) at (tabs.take_drop_tab s 0 0 8 (omega (arith, taken.long)))))

  abbrev pub first : ℕ
  first = head_start F 0

  first_is : 8 + heads_at F ≡ first
  first_is = omega (arith, zero-mul (width_of F))

  -- the nodes stand behind the head lines
  pub lines_end : head_start F (heads_in s) ≡ at 0
  lines_end = omega (arith, forms.header_is G, forms.place_zero G)

  pub header_fits : at 0 ≤ length s
  header_fits = omega (arith, size, forms.place_from G (nodes_in s), forms.place_zero G)

  head_there : head_of (saying.surveys s bs h (count_in s)) ≡ take first s
  unfolding head_of
  head_there =
      let p = image_part s in
      let l : header_size (shape_in p) ≤ length p = omega (arith, header_fits, taken.long, length-drop 8 s, places.header_same s taken.part.shape.agrees, forms.place_zero G) in
      let m = ap mark_bytes (shape_said (count_in s)) ∙ mark_there p (acts.part_bytes s bs) kf l (threads_in s) taken.part.shape.agrees in
      ap₂ (λ (a b : List ℕ). a ++ b) eight m
      ∙ sym (take-add 8 (heads_at F) s)
      ∙ ap (λ k. take k s) first_is

  pub blank_there : blank_file (saying.surveys s bs h (count_in s)) ≡ zeroed.file s first
  unfolding blank_file
  blank_there =
      let e : span_of G + count_in s * 6 ≡ length s - first = omega (arith, size, zero-mul (width_of F), forms.header_is G, forms.place_from G (nodes_in s)) in
      ap₂ (λ a n. a ++ zeroed.zero n) head_there (ap (λ (g : Shape). span_of g + count_in s * 6) (shape_said (count_in s)) ∙ e)

  -- the size
  abbrev pub Z : ℕ
  Z = at (nodes_in s) + count_in s * 6

  pub none_put : (x : List ℕ) (p : ℕ) → put_all G Z x p [] ≡ x
  unfolding put_all
  none_put x p = refl

  -- ---- N and T

  pub open_put : (x : List ℕ) (p : ℕ) → put_all G Z x p (acts.open_acts s) ≡ x
  unfolding put_all put_by reach_by
  open_put x p = by (per_desk F)
    where
      by : (b : Bool) → put_all G Z x p (line_is.Nodes (nodes_in s) ∷ pick b (line_is.Desks (threads_in s) ∷ []) (line_is.Threads (threads_in s) ∷ [])) ≡ x
      by true = refl
      by false = refl

  pub open_reach : (p : ℕ) → reach_all Z p (acts.open_acts s) ≡ p
  unfolding reach_all reach_by
  open_reach p = by (per_desk F)
    where
      by : (b : Bool) → reach_all Z p (line_is.Nodes (nodes_in s) ∷ pick b (line_is.Desks (threads_in s) ∷ []) (line_is.Threads (threads_in s) ∷ [])) ≡ p
      by true = refl
      by false = refl

  -- ---- head lines

  one_head : (x : List ℕ) (p : ℕ) (i : Option ℕ) (y : ℕ) → line_named i < heads_in s → put_all G Z x p (line_is.Head i y ∷ []) ≡ over x (head_start F (line_named i)) (le (width_of F) y)
  unfolding put_all put_by reach_by
  one_head x p i y l = rw (lt-ltb (line_named i) (heads_in s) l)

  version_put : (x : List ℕ) (p : ℕ) (l : List Act) → put_all G Z x p (acts.version_acts F ++ l) ≡ put_all G Z x p l
  unfolding put_all put_by reach_by
  version_put x p l = by (eqb F 1)
    where
      by : (b : Bool) → put_all G Z x p (pick b [] (line_is.Version F ∷ []) ++ l) ≡ put_all G Z x p l
      by true = refl
      by false = refl

  head_put : (x : List ℕ) (p k : ℕ) → k < heads_in s → put_all G Z x p (acts.head_acts s k) ≡ over x (head_start F k) (le (width_of F) (head_at s k))
  head_put x p k l = by (per_desk F) refl
    where
      by : (b : Bool) → per_desk F ≡ b
          → put_all G Z x p (pick b (line_is.Head (Some k) (head_at s k) ∷ []) (acts.version_acts F ++ (line_is.Head None (head_at s k) ∷ []))) ≡ over x (head_start F k) (le (width_of F) (head_at s k))
      by true e = one_head x p (Some k) (head_at s k) l
      by false e =
          let one = saying.lines_sole G kf e in
          let z : 0 ≡ k = omega (arith, one, l) in
          version_put x p (line_is.Head None (head_at s k) ∷ [])
          ∙ one_head x p None (head_at s k) (omega (arith, one))
          ∙ ap (λ j. over x (head_start F j) (le (width_of F) (head_at s k))) z

  pub head_reach : (p k : ℕ) → reach_all Z p (acts.head_acts s k) ≡ p
  unfolding reach_all reach_by
  head_reach p k = by (per_desk F) (eqb F 1)
    where
      by : (b c : Bool) → reach_all Z p (pick b (line_is.Head (Some k) (head_at s k) ∷ []) (pick c [] (line_is.Version F ∷ []) ++ (line_is.Head None (head_at s k) ∷ []))) ≡ p
      by true c = refl
      by false true = refl
      by false false = refl

  head_place : (k : ℕ) → k < heads_in s → head_start F k + width_of F ≤ at 0
  head_place k l = omega (arith, shapes.line_within G k l, forms.place_zero G)

  head_bytes : (k : ℕ) → k < heads_in s → le (width_of F) (head_at s k) ≡ take (width_of F) (drop (head_start F k) s)
  unfolding head_at
  head_bytes k l =
      let q = heads_at F + k * width_of F in
      num.le_at (width_of F) (image_part s) q (acts.part_bytes s bs) (omega (arith, head_place k l, header_fits, length-drop 8 s))
      ∙ ap (take (width_of F)) (drop-drop q 8 s)

  head_next : (k : ℕ) → head_start F k + width_of F ≡ head_start F (suc k)
  head_next k = omega (arith, ap (λ j. j * width_of F) (add-one k), add-mul k 1 (width_of F), one-mul (width_of F))

  pub heads_put : (q m : ℕ) → m ≤ heads_in s → put_all G Z (zeroed.file s first) q (joined (acts.head_acts s) m) ≡ zeroed.file s (head_start F m)
  unfolding joined put_all
  heads_put q zero p = refl
  heads_put q (suc m) p =
      let l : m < heads_in s = omega arith in
      put_also G Z (zeroed.file s first) q (joined (acts.head_acts s) m) (acts.head_acts s m)
      ∙ ap₂ (λ x z. put_all G Z x z (acts.head_acts s m)) (heads_put q m (omega arith)) (reach_joined Z q (acts.head_acts s) m (head_reach q))
      ∙ head_put (zeroed.file s (head_start F m)) q m l
      ∙ ap (over (zeroed.file s (head_start F m)) (head_start F m)) (head_bytes m l)
      ∙ zeroed.put_next s (head_start F m) (width_of F) (omega (arith, head_place m l, header_fits))
      ∙ ap (zeroed.file s) (head_next m)

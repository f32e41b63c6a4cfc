-- Bytes put one behind the other, and a file in the front of a longer buffer.
use Prim.Native.Nat.{ℕ, suc, ◌+◌, ◌-◌, ◌*◌, ◌%◌, ◌/◌, ◌≤◌, ◌<◌}
use mathlib.Core.Path.{◌≡◌, refl, sym, ap, ap₂, ◌∙◌}
use mathlib.Core.Bool.{true}
use mathlib.Core.Logic.{◌≢◌}
use mathlib.Core.List.{List, [], ◌∷◌, ◌++◌, append_assoc}
use native.Mathlib.Omega.{arith}
use native.Mathlib.Numerals.{add-one, add-two}
use native.Mathlib.Nat.{zero-add, zero-mul}
use native.Mathlib.Decide.{dec_lt, ℕ_discrete}
use borrow.Author.Tests.{eq-eqb, ne_eqb, lt-ltb, le-ltb, le-leb, lt-leb}
use lib.ListN.{length, set, take, drop, replicate, length-append, length-set, length-replicate}
use lib.Seq.{drop-drop, set-append_left, sets}
use borrow.Rule.Slice.PartMut.{put_mid}
use Rattle.lists.specs.Tab.{joined, over}
use Rattle.lists.proofs.TabLaws as tabs
use Rattle.image.specs.Bytes.{le4}
use Rattle.image.specs.Form.{Form, plain, wide, pair, desks, form_of, head_count, known, width_of, node_size, head_lines}
use Rattle.image.specs.Layout.{mark_bytes}
use Rattle.image.specs.declared.Content.{Content}
use Rattle.image.specs.declared.Shape.{Shape}
use Rattle.image.proofs.ByteLaws.{length_le}
use Rattle.image.proofs.FormLaws as forms
use Rattle.codec.proofs.Laws as image
use Rattle.codec.proofs.ReadWrite as again
use Rattle.codec.proofs.Shapes as shapes
use Rattle.printing.proofs.Written as written
use Rattle.std.specs.Prelude.{Option}
use Rattle.spelling.specs.declared.Act.{Act}
use Rattle.spelling.specs.declared.Act.TheVariants as line_is
use Rattle.spelling.specs.declared.Survey.{Survey}
use Rattle.spelling.specs.Layout.{said_shape, head_start, node_start, events_start, size_of, rest_of, head_of, head_said, node_said, event_said}
use Rattle.spelling.specs.Reading.{blank_file, times, line_named, put_by, reach_by, put_all}

pub event_over : (b : List ℕ) (at x y z : ℕ) → over (set (set b at x) (at + 1) y) (at + 2) (le4 z) ≡ over b at (x ∷ y ∷ le4 z)
unfolding over
event_over b at x y z = simp (add-one, add-two)

-- ---- what stands before the head lines

pub desks_over : (b : List ℕ) (g : Shape) → g.form ≡ 4 → set (set (over b 8 (85 ∷ 81 ∷ 80 ∷ 1 ∷ 0 ∷ [])) 13 g.n) 14 g.t ≡ over b 8 (mark_bytes g)
unfolding over
desks_over b g e = rw (shapes.mark_desks g e)

pub plain_over : (b : List ℕ) (g : Shape) → known g.form ≡ true → g.form ≢ 4
    → set (over b 8 (85 ∷ 81 ∷ 73 ∷ g.form ∷ 0 ∷ [])) 13 g.n ≡ over b 8 (mark_bytes g)
unfolding over
plain_over b g h e = rw (shapes.mark_plain g h e)

pub header_over : (b : List ℕ) (v : Survey) (g : Shape) → g ≡ said_shape v
    → over (over (over (over (over b 0 (85 ∷ 81 ∷ 83 ∷ 1 ∷ 0 ∷ [])) 5 (v.t % 256 ∷ [])) 6 (v.count % 256 ∷ [])) 7 (v.count / 256 % 256 ∷ [])) 8 (mark_bytes g)
    ≡ over b 0 (head_of v)
unfolding over head_of
header_over b v g e =
    ap (λ (g : Shape). over (over (over (over (over b 0 (85 ∷ 81 ∷ 83 ∷ 1 ∷ 0 ∷ [])) 5 (v.t % 256 ∷ [])) 6 (v.count % 256 ∷ [])) 7 (v.count / 256 % 256 ∷ [])) 8 (mark_bytes g)) e

pub length_head : (v : Survey) → known v.form ≡ true → length (head_of v) ≡ head_start v.form 0
unfolding head_of
length_head v h = omega (arith, shapes.mark_length (said_shape v) h, zero-mul (width_of v.form))

-- ---- the places of head lines and nodes, in a schedule

pub head_wide : (f k : ℕ) → f ≡ 2 → 14 + k * 8 ≡ head_start f k
head_wide f k e = omega (arith, shapes.line_wide f k e)

pub head_desks : (f k : ℕ) → f ≡ 4 → 15 + k * 4 ≡ head_start f k
head_desks f k e = omega (arith, shapes.line_desks f k e)

pub head_plain : (f k : ℕ) → known f ≡ true → f ≢ 2 → f ≢ 4 → 14 + k * 4 ≡ head_start f k
head_plain f k h a b = omega (arith, shapes.line_plain f k h a b)

-- the mark before them has at most seven bytes
pub head_first : (f : ℕ) → (14 ≤ head_start f 0) × (head_start f 0 ≤ 15)
head_first f = (omega (arith, zero-mul (width_of f), (forms.heads_few f).0), omega (arith, zero-mul (width_of f), (forms.heads_few f).1))

pub lines_few : (g : Shape) → g.t ≤ 255 → head_lines g ≤ 255
unfolding head_lines
lines_few g h = by (form_of g.form)
  where
    by : (f : Form) → head_count f g.t ≤ 255
    by plain = omega arith
    by wide = omega arith
    by pair = omega arith
    by desks = h

pub head_within : (g : Shape) (k : ℕ) → k < head_lines g → head_start g.form k + width_of g.form ≤ node_start g 0
head_within g k h = omega (arith, shapes.line_within g k h, forms.place_zero g)

-- so a schedule has fewer than 500,000 bytes
abbrev pub Starts : Shape → ℕ → ℕ → Type 0
Starts g i r = (r ≡ node_start g i) × (r ≤ 3337)

pub start_wide : (g : Shape) (i : ℕ) → i ≤ 255 → g.form ≡ 2 → Starts g i (22 + i * 13)
start_wide g i l e = (omega (arith, forms.place_wide g i e), omega arith)

pub start_desks : (g : Shape) (i : ℕ) → i ≤ 255 → g.t ≤ 255 → g.form ≡ 4 → Starts g i (15 + g.t * 4 + i * 9)
start_desks g i l t e = (omega (arith, forms.place_desks g i e), omega arith)

pub start_plain : (g : Shape) (i : ℕ) → i ≤ 255 → known g.form ≡ true → g.form ≢ 2 → g.form ≢ 4 → Starts g i (18 + i * 9)
start_plain g i l h a b = (omega (arith, forms.place_plain g i h a b), omega arith)

pub node_within : (g : Shape) (i : ℕ) → i < g.n → node_start g i + node_size g.form ≤ events_start g
node_within g i h = omega (arith, forms.place_within g i g.n h)

pub nodes_behind : (g : Shape) → node_start g 0 ≤ events_start g
nodes_behind g = omega (arith, forms.place_zero g, forms.place_from g g.n)

pub first_behind : (g : Shape) → head_start g.form 0 ≤ events_start g
first_behind g = omega (arith, zero-mul (width_of g.form), forms.header_is g, forms.place_from g g.n)

-- ---- an event d times

pub times_none : (b : List ℕ) (at : ℕ) (l : List ℕ) → b ≡ over b at (times 0 l)
unfolding over times joined
times_none b at l = refl

pub length_times : (d e n v : ℕ) → length (times d (event_said e n v)) ≡ d * 6
unfolding times
length_times d e n v = tabs.length_joined (λ i. event_said e n v) 6 d (λ i. refl)

times_suc : (i : ℕ) (l : List ℕ) → times (suc i) l ≡ times i l ++ l
unfolding times joined
times_suc i l = refl

pub times_next : (b : List ℕ) (at i e n v : ℕ)
    → over (over b at (times i (event_said e n v))) (at + i * 6) (event_said e n v) ≡ over b at (times (i + 1) (event_said e n v))
times_next b at i e n v =
    ap (λ m. over (over b at (times i (event_said e n v))) (at + m) (event_said e n v)) (sym (length_times i e n v))
    ∙ tabs.over_append b at (times i (event_said e n v)) (event_said e n v)
    ∙ ap (over b at) (sym (times_suc i (event_said e n v)) ∙ ap (λ m. times m (event_said e n v)) (sym (add-one i)))

-- ---- zeros

-- a part of a list that became zs is zs written over it
pub put_part : (b ys zs : List ℕ) (at k : ℕ) → ys ≡ zs → k ≡ length zs → at + length zs ≤ length b → put_mid at k b ys ≡ over b at zs
put_part b ys zs at k e l h =
    ap (λ y. put_mid at k b y) e
    ∙ ap (λ d. take at b ++ (zs ++ d)) (drop-drop k at b ∙ ap (λ m. drop (at + m) b) l)
    ∙ sym (append_assoc (take at b) zs (drop (at + length zs) b))
    ∙ sym (tabs.over_is b at zs h)

rest_is : (v : Survey) → size_of v - head_start v.form 0 ≡ rest_of v
rest_is v = let g = said_shape v in omega (arith, zero-mul (width_of v.form), forms.header_is g, forms.place_from g g.n)

pub blank_over : (b : List ℕ) (v : Survey) → known v.form ≡ true
    → over (over b 0 (head_of v)) (head_start v.form 0) (replicate (size_of v - head_start v.form 0) 0) ≡ over b 0 (blank_file v)
unfolding blank_file
blank_over b v h =
    ap₂ (λ k n. over (over b 0 (head_of v)) k (replicate n 0)) (sym (length_head v h) ∙ sym (zero-add (length (head_of v)))) (rest_is v)
    ∙ tabs.over_append b 0 (head_of v) (replicate (rest_of v) 0)

-- ---- a file in the front of a longer buffer

module _ (b : List ℕ) where
  front_set : (x : List ℕ) (i v : ℕ) → length x ≤ length b → i < length x → set (over b 0 x) i v ≡ over b 0 (set x i v)
  front_set x i v h p =
      ap (λ l. set l i v) (again.over_front b x h)
      ∙ set-append_left x (drop (length x) b) i v p
      ∙ ap (λ n. set x i v ++ drop n b) (sym (length-set x i v))
      ∙ sym (again.over_front b (set x i v) (omega (arith, length-set x i v)))

  front_over : (y x : List ℕ) (i : ℕ) → length x ≤ length b → i + length y ≤ length x → over (over b 0 x) i y ≡ over b 0 (over x i y)
  unfolding over
  front_over [] x i h p = refl
  front_over (v ∷ y) x i h p =
      ap (λ l. sets l (suc i) y) (front_set x i v h (omega arith))
      ∙ front_over y (set x i v) (suc i) (omega (arith, length-set x i v)) (omega (arith, length-set x i v))

-- a line puts certain bytes within z, perhaps none
pub record Puts (g : Shape) (z p : ℕ) (a : Act) : Type 0 where
  pub place : ℕ
  pub bytes : List ℕ
  pub within : place + length bytes ≤ z
  pub puts : (x : List ℕ) → put_by g z x p a ≡ over x place bytes

module _ (g : Shape) (z : ℕ) (k : known g.form ≡ true) (l : events_start g ≤ z) (p : ℕ) where
  none : (a : Act) → ((x : List ℕ) → put_by g z x p a ≡ x) → Puts g z p a
  unfolding over
  none a h = record { place = 0; bytes = []; within = omega arith; puts = h }

  heads : (i : Option ℕ) (y : ℕ) → Dec (line_named i < head_lines g) → Puts g z p (line_is.Head i y)
  unfolding put_by
  heads i y (yes h) = record {
    place = head_start g.form (line_named i);
    bytes = head_said g.form y;
    within = omega (arith, length_le (width_of g.form) y, head_within g (line_named i) h, nodes_behind g);
    puts = λ x. rw (lt-ltb (line_named i) (head_lines g) h);
  }
  heads i y (no h) = none (line_is.Head i y) (λ x. rw (le-ltb (line_named i) (head_lines g) (omega arith)))

  nodes : (i m y v : ℕ) → Dec (i < g.n) → Puts g z p (line_is.Node i m y v)
  unfolding put_by
  nodes i m y v (yes h) =
      let c : Content = record { linked = m % 256; index = y; item = v % 4294967296 } in
      record {
        place = node_start g i;
        bytes = node_said g.form m y v;
        within = omega (arith, image.node_length g.form c k, node_within g i h);
        puts = λ x. rw (lt-ltb i g.n h);
      }
  nodes i m y v (no h) = none (line_is.Node i m y v) (λ x. rw (le-ltb i g.n (omega arith)))

  events : (e n v d : ℕ) → Dec (z < p + d * 6) → Puts g z p (line_is.Events e n v d)
  unfolding put_by
  events e n v d (yes h) = none (line_is.Events e n v d) (λ x. rw (lt-leb (p + d * 6) z h))
  events e n v d (no h) = record {
    place = p;
    bytes = times d (event_said e n v);
    within = omega (arith, length_times d e n v);
    puts = λ x. rw (le-leb (p + d * 6) z (omega arith));
  }

  put_is : (a : Act) → Puts g z p a
  unfolding put_by
  put_is (line_is.Head i y) = heads i y (dec_lt (line_named i) (head_lines g))
  put_is (line_is.Node i m y v) = nodes i m y v (dec_lt i g.n)
  put_is (line_is.Events e n v d) = events e n v d (dec_lt z (p + d * 6))
  put_is line_is.Nothing = none line_is.Nothing (λ x. refl)
  put_is (line_is.Nodes x) = none (line_is.Nodes x) (λ x. refl)
  put_is (line_is.Threads x) = none (line_is.Threads x) (λ x. refl)
  put_is (line_is.Version x) = none (line_is.Version x) (λ x. refl)
  put_is (line_is.Desks x) = none (line_is.Desks x) (λ x. refl)
  put_is line_is.Unknown = none line_is.Unknown (λ x. refl)
  put_is line_is.TooLarge = none line_is.TooLarge (λ x. refl)

  length_put : (a : Act) (x : List ℕ) → length (put_by g z x p a) ≡ length x
  length_put a x = ap length ((put_is a).puts x) ∙ tabs.length_over x (put_is a).place (put_is a).bytes

  put_front : (a : Act) (b x : List ℕ) → length x ≡ z → z ≤ length b → put_by g z (over b 0 x) p a ≡ over b 0 (put_by g z x p a)
  put_front a b x e h =
      (put_is a).puts (over b 0 x)
      ∙ front_over b (put_is a).bytes x (put_is a).place (omega arith) (omega (arith, (put_is a).within))
      ∙ ap (over b 0) (sym ((put_is a).puts x))

module _ (b : List ℕ) (g : Shape) (z : ℕ) (k : known g.form ≡ true) (m : events_start g ≤ z) (h : z ≤ length b) where
  pub all_front : (x : List ℕ) (p : ℕ) (l : List Act) → length x ≡ z → put_all g z (over b 0 x) p l ≡ over b 0 (put_all g z x p l)
  unfolding put_all
  all_front x p [] e = refl
  all_front x p (a ∷ l) e =
      ap (λ y. put_all g z y (reach_by z p a) l) (put_front g z k m p a b x e h)
      ∙ all_front (put_by g z x p a) (reach_by z p a) l (length_put g z k m p a x ∙ e)

pub length_blank : (v : Survey) → known v.form ≡ true → length (blank_file v) ≡ size_of v
unfolding blank_file
length_blank v h =
    omega (
      arith,
      length-append (head_of v) (replicate {A = ℕ} (rest_of v) 0),
      length-replicate {A = ℕ} (rest_of v) 0,
      length_head v h,
      rest_is v,
      first_behind (said_shape v),
    )

-- Contents that are taken for writing, written and read again, are the same contents.
use Prim.Native.Nat.{ℕ, ◌+◌, ◌*◌, ◌^◌, ◌≤◌, ◌<◌}
use mathlib.Core.Path.{◌≡◌, refl, sym, ap, ap₂, subst, ◌∙◌}
use mathlib.Core.Bool.{Bool, true, false}
use mathlib.Core.List.{List, ◌∷◌, ◌++◌}
use native.Mathlib.Omega.{arith}
use native.Mathlib.Nat.{add_assoc, add_comm, add-zero, zero-add}
use native.Mathlib.Numerals.{add-one}
use borrow.Author.Tests.{eq-eqb, eqb-true, le-ltb}
use lib.ListN.{length, get_or, take, drop, length-append, take-append-drop, get_or-append}
use lib.Seq.{get_or-append-add, take_at, take_all, drop_at}
use lib.Dec.{eqb, ltb}
use Rattle.lists.specs.Find.{pick}
use Rattle.lists.specs.Tab.{tab, joined, front}
use Rattle.lists.proofs.TabLaws as tabs
use Rattle.answer.specs.Answers.{accepted, Taken}
use Rattle.image.specs.Bytes.{le, num_of, at_w, at1, at4}
use Rattle.image.specs.Form.{Form, plain, wide, pair, desks, form_of, known, letter, version, thread_bytes, held_threads}
use Rattle.image.specs.Form.{width_of, top_of, heads_at, node_size, head_lines, own_threads, header_size, node_place, image_size, per_desk}
use Rattle.image.specs.Layout as im
use Rattle.image.proofs.HeadLaws.{heads_at_lem, head_same}
use Rattle.image.proofs.HeadLaws.{lines_same}
use Rattle.image.proofs.FormLaws.{size_is, place_from, place_within, marked_form}
use Rattle.image.proofs.ShapeLaws.{Shaped, shape_then, nodes_range, agree_own}
use Rattle.codec.proofs.Shapes.{mark_length, line_within, size_place, size_from, size_most, size_same}
use Rattle.image.proofs.SoundLaws.{Fitting, sound_then, whole_is}
use Rattle.image.specs.Refusals.{threads_fit, own_fit, sound, image_answer, alone_answer, read_image, write_answer, written}
use Rattle.image.specs.declared.Content.{Content}
use Rattle.image.specs.declared.Image.{Image}
use Rattle.image.specs.declared.Shape.{Shape}
use Rattle.codec.proofs.Accepted as acc
use Rattle.codec.proofs.Laws as laws
use Rattle.image.proofs.ByteLaws as num
use Rattle.codec.proofs.ReadWrite as there
use Rattle.codec.proofs.Same as same

-- an item is one of 32 bits; that the indices fit is 20
abbrev pub Items : Image → Type 0
Items g = (i : ℕ) → i < g.n → (im.content_at g.nodes i).item < 2 ^ 32

-- the same form, N, T where it is held, head indices and nodes, and blank beyond
abbrev pub trimmed : Image → Image
trimmed g = record {
  form = g.form;
  n = g.n;
  t = own_threads (im.image_shape g);
  heads = im.heads_of (im.image_shape g) (im.head_in g);
  nodes = front (im.content_at g.nodes) g.n im.no_contents;
}

-- T counts where it is held
own_same : (g : Image) → per_desk g.form ≡ true → own_threads (im.image_shape g) ≡ g.t
unfolding own_threads per_desk
own_same g h = rw (eqb-true g.form 4 h)

trimmed_lines : (g : Image) → head_lines (im.image_shape (trimmed g)) ≡ head_lines (im.image_shape g)
trimmed_lines g = lines_same g.form g.n (own_threads (im.image_shape g)) g.n g.t (own_same g)

trimmed_size : (g : Image) → image_size (im.image_shape (trimmed g)) ≡ image_size (im.image_shape g)
trimmed_size g = size_same g.form g.n (own_threads (im.image_shape g)) g.t (own_same g)

trimmed_place : (g : Image) (i : ℕ) → node_place (im.image_shape (trimmed g)) i ≡ node_place (im.image_shape g) i
unfolding node_place header_size
trimmed_place g i = ap (λ (m : ℕ). heads_at g.form + m * width_of g.form + i * node_size g.form) (trimmed_lines g)

trimmed_own : (g : Image) → own_fit (im.image_shape g) ≡ true → own_fit (im.image_shape (trimmed g)) ≡ true
trimmed_own g h = by (per_desk g.form) refl
  where
    by : (b : Bool) → per_desk g.form ≡ b → pick b (threads_fit (own_threads (im.image_shape g))) true ≡ true
    by true e = ap threads_fit (own_same g e) ∙ rw e at h
    by false e = refl

trimmed_shaped : (g : Image) → Shaped g.t (im.image_shape g) → Shaped (trimmed g).t (im.image_shape (trimmed g))
trimmed_shaped g f = record { form = f.form; nodes = f.nodes; own = trimmed_own g f.own; agrees = agree_own (im.image_shape (trimmed g)) }

-- T, where it is held, stands behind N
held_back : (f : Form) (t : ℕ) (a b : List ℕ) → held_threads f (get_or ((thread_bytes f t ++ a) ++ b) 0 0) ≡ held_threads f t
held_back plain t a b = refl
held_back wide t a b = refl
held_back pair t a b = refl
held_back desks t a b = refl

number_back : (w x : ℕ) → x < 256 ^ w → at_w w (le w x) 0 ≡ x
unfolding at_w
number_back w x h = ap num_of (take_all w (le w x) (omega (arith, num.length_le w x))) ∙ num.num_le w x h

pub trimmed_at : (g : Image) (i : ℕ) → i < g.n → im.content_at (trimmed g).nodes i ≡ im.content_at g.nodes i
trimmed_at g i p = tabs.front_at (im.content_at g.nodes) g.n im.no_contents i im.no_content p

pub trimmed_alike : (g : Image) → same.Alike (trimmed g) g
trimmed_alike g = record {
  n = refl;
  head = head_same (trimmed g) g (trimmed_lines g) (λ k p. heads_at_lem (im.image_shape g) (im.head_in g) k (omega (arith, p, trimmed_lines g)));
  nodes = trimmed_at g;
}

pub trimmed_beyond : (g : Image) → drop g.n (trimmed g).nodes ≡ drop g.n im.no_contents
unfolding front
trimmed_beyond g =
    drop_at (tab (im.content_at g.nodes) g.n) (drop g.n im.no_contents) g.n (tabs.length_tab (im.content_at g.nodes) g.n)

-- where nothing stands beyond the head lines and beyond the nodes, and no T where none is held, nothing is trimmed
pub trimmed_same : (g : Image) → own_threads (im.image_shape g) ≡ g.t → im.heads_of (im.image_shape g) (im.head_in g) ≡ g.heads → g.n ≤ length g.nodes → drop g.n g.nodes ≡ drop g.n im.no_contents → trimmed g ≡ g
unfolding front
trimmed_same g o x l e =
    let t : tab (im.content_at g.nodes) g.n ≡ take g.n g.nodes =
    tabs.tab_same (im.content_at g.nodes) (λ i. get_or g.nodes (0 + i) im.no_content) g.n (λ i p. ap (im.content_at g.nodes) (sym (zero-add i)))
    ∙ sym (tabs.take_drop_tab g.nodes im.no_content 0 g.n (omega arith)) in
    let e' : front (im.content_at g.nodes) g.n im.no_contents ≡ g.nodes =
    ap₂ (λ (x y : List Content). x ++ y) t (sym e) ∙ take-append-drop g.n g.nodes in
    λ k. record { form = g.form; n = g.n; t = o k; heads = x k; nodes = e' k }

module _ (g : Image) (k : known g.form ≡ true) where
  abbrev shape : Shape
  shape = im.image_shape g

  unfoldable pub node_of : ℕ → List ℕ
  node_of i = im.node_bytes g.form (im.content_at g.nodes i)

  node_size_lem : (i : ℕ) → length (node_of i) ≡ node_size g.form
  unfolding node_of
  node_size_lem i = laws.node_length g.form (im.content_at g.nodes i) k

  -- byte j of node i
  pub at_node : (i j : ℕ) → i < g.n → j < node_size g.form → get_or (im.image_bytes g) (node_place shape i + j) 0 ≡ get_or (node_of i) j 0
  unfolding im.image_bytes im.body_bytes node_of
  at_node i j p q =
      let h = laws.head_length shape (im.head_in g) k in
      ap (λ (k : ℕ). get_or (im.image_bytes g) k 0) (omega (arith, place_from shape i, h))
      ∙ get_or-append-add (im.head_bytes shape (im.head_in g)) (im.body_bytes g.form g.nodes g.n) (i * node_size g.form + j) 0
      ∙ tabs.get_or_joined node_of (node_size g.form) g.n i j 0 node_size_lem p q

  pub size_back : length (im.image_bytes g) ≡ image_size shape
  unfolding im.image_bytes
  size_back =
      length-append (im.head_bytes shape (im.head_in g)) (im.body_bytes g.form g.nodes g.n)
      ∙ ap₂ (λ (a b : ℕ). a + b) (laws.head_length shape (im.head_in g) k) (laws.length_body g.form g.nodes g.n k)
      ∙ sym (size_from shape)

  index_back : (w : ℕ) (r : List ℕ) (a x : ℕ) → x < 256 ^ w → at_w w (a ∷ (le w x ++ r)) 1 ≡ x
  unfolding at_w
  index_back w r a x h = ap num_of (take_at (le w x) r w (num.length_le w x)) ∙ num.num_le w x h

  item_back : (w : ℕ) (a x y : ℕ) → y < 256 ^ 4 → at4 (a ∷ (le w x ++ le 4 y)) (1 + w) ≡ y
  unfolding at_w
  item_back w a x y h =
      ap (λ (k : ℕ). num_of (take 4 (drop k (a ∷ (le w x ++ le 4 y))))) (add_comm 1 w ∙ add-one w)
      ∙ ap (λ (l : List ℕ). num_of (take 4 l)) (drop_at (le w x) (le 4 y) w (num.length_le w x)) ∙ num.num_le 4 y h

  node_back : Fitting g → Items g → (i : ℕ) → i < g.n → im.read_content g.form (im.image_bytes g) (node_place shape i) ≡ im.content_at g.nodes i
  unfolding node_of top_of
  node_back t w i p =
      let f = g.form in
      let v = im.content_at g.nodes i in
      let b = im.image_bytes g in
      let z = size_is f k in
      let within = place_within shape i g.n p in
      let l : at1 b (node_place shape i) ≡ v.linked = ap (λ (k : ℕ). get_or b k 0) (sym (add-zero (node_place shape i))) ∙ at_node i 0 p (omega (arith, z)) in
      let x : at_w (width_of f) b (node_place shape i + 1) ≡ v.index =
      num.at_same (width_of f) b (node_of i) (node_place shape i) 1 (node_size f) (λ j h. at_node i j p h) (omega (arith, z)) (omega (arith, z, within, size_back, size_place shape)) (omega (arith, z, node_size_lem i))
      ∙ index_back (width_of f) (le 4 v.item) v.linked v.index (omega (arith, t.at i p, num.pow_positive (width_of f))) in
      let y : at4 b (node_place shape i + 1 + width_of f) ≡ v.item =
      ap (at4 b) (add_assoc (node_place shape i) 1 (width_of f))
      ∙ num.at_same 4 b (node_of i) (node_place shape i) (1 + width_of f) (node_size f) (λ j h. at_node i j p h) (omega (arith, z)) (omega (arith, z, within, size_back, size_place shape)) (omega (arith, z, node_size_lem i))
      ∙ item_back (width_of f) v.linked v.index v.item (w i p) in
      λ k. record { linked = l k; index = x k; item = y k }

  nodes_back : Fitting g → Items g → front (λ i. im.read_content g.form (im.image_bytes g) (node_place shape i)) g.n im.no_contents ≡ (trimmed g).nodes
  nodes_back t w =
      tabs.front_same (λ i. im.read_content g.form (im.image_bytes g) (node_place shape i)) (im.content_at g.nodes) g.n im.no_contents (λ i p. node_back t w i p)

  nodes_again : Fitting g → Items g → im.read_nodes (im.image_shape (trimmed g)) (im.image_bytes g) ≡ (trimmed g).nodes
  unfolding im.read_nodes
  nodes_again t w =
      tabs.front_same
      (λ i. im.read_content g.form (im.image_bytes g) (node_place (im.image_shape (trimmed g)) i))
      (λ i. im.read_content g.form (im.image_bytes g) (node_place shape i))
      g.n
      im.no_contents
      (λ i p. ap (im.read_content g.form (im.image_bytes g)) (trimmed_place g i))
      ∙ nodes_back t w

  count_back : at1 (im.image_bytes g) 5 ≡ g.n
  unfolding im.image_bytes im.head_bytes im.mark_bytes
  count_back = refl

  form_back : im.form_in (im.image_bytes g) ≡ g.form
  unfolding im.marked im.image_bytes im.head_bytes im.mark_bytes
  form_back =
      marked_form g.form (im.image_bytes g) k
      (rw (eq-eqb (letter (form_of g.form)) (letter (form_of g.form)) refl, eq-eqb (version (form_of g.form)) (version (form_of g.form)) refl))

  threads_back : held_threads (form_of g.form) (at1 (im.image_bytes g) 6) ≡ own_threads shape
  unfolding im.image_bytes im.head_bytes im.mark_bytes own_threads
  threads_back = held_back (form_of g.form) g.t _ _

  shape_back : im.shape_in (im.image_bytes g) ≡ im.image_shape (trimmed g)
  unfolding im.shape_in
  shape_back =
      let b = im.image_bytes g in
      let t = ap (λ (f : ℕ). held_threads (form_of f) (at1 b 6)) form_back ∙ threads_back in
      λ k. record { form = form_back k; n = count_back k; t = t k }

  unfoldable line_of : ℕ → List ℕ
  line_of j = le (width_of g.form) (im.head_in g j)

  line_size : (j : ℕ) → length (line_of j) ≡ width_of g.form
  unfolding line_of
  line_size j = num.length_le (width_of g.form) (im.head_in g j)

  -- byte i of head line j
  at_line : (j i : ℕ) → j < head_lines shape → i < width_of g.form → get_or (im.image_bytes g) (heads_at g.form + j * width_of g.form + i) 0 ≡ get_or (line_of j) i 0
  unfolding im.image_bytes im.head_bytes line_of
  at_line j i p q =
      let f = g.form in
      let w = width_of f in
      let m = mark_length shape k in
      let within = line_within shape j p in
      get_or-append (im.head_bytes shape (im.head_in g)) (im.body_bytes f g.nodes g.n) 0 (heads_at f + j * w + i) (omega (arith, within, laws.head_length shape (im.head_in g) k))
      ∙ ap (λ (x : ℕ). get_or (im.head_bytes shape (im.head_in g)) x 0) (omega (arith, m))
      ∙ get_or-append-add (im.mark_bytes shape) (joined line_of (head_lines shape)) (j * w + i) 0
      ∙ tabs.get_or_joined line_of w (head_lines shape) j i 0 line_size p q

  heads_back : Fitting g → (j : ℕ) → j < head_lines shape → at_w (width_of g.form) (im.image_bytes g) (heads_at g.form + j * width_of g.form) ≡ im.head_in g j
  unfolding top_of line_of
  heads_back t j h =
      let f = g.form in
      let w = width_of f in
      let p = heads_at f + j * w in
      ap (at_w w (im.image_bytes g)) (sym (add-zero p))
      ∙ num.at_same w (im.image_bytes g) (line_of j) p 0 w (λ i q. at_line j i h q) (omega arith) (omega (arith, line_within shape j h, size_from shape, size_back)) (omega (arith, line_size j))
      ∙ number_back w (im.head_in g j) (omega (arith, t.head j h, num.pow_positive w))

  heads_again : Fitting g → im.read_heads (im.image_shape (trimmed g)) (im.image_bytes g) ≡ (trimmed g).heads
  unfolding im.read_heads im.heads_of
  heads_again t =
      let x : ℕ → ℕ = λ j. at_w (width_of g.form) (im.image_bytes g) (heads_at g.form + j * width_of g.form) in
      ap (λ (m : ℕ). front x m im.no_heads) (trimmed_lines g)
      ∙ tabs.front_same x (im.head_in g) (head_lines shape) im.no_heads (heads_back t)

  -- what the bytes of contents hold
  pub image_back : Fitting g → Items g → im.image_in (im.image_bytes g) ≡ trimmed g
  unfolding im.image_in
  image_back t w =
      let b = im.image_bytes g in
      let heads = ap (λ (z : Shape). im.read_heads z b) shape_back ∙ heads_again t in
      let nodes = ap (λ (z : Shape). im.read_nodes z b) shape_back ∙ nodes_again t w in
      λ k. record { form = (shape_back k).form; n = (shape_back k).n; t = (shape_back k).t; heads = heads k; nodes = nodes k }

  answer_back : Items g → (room : ℕ) → accepted (write_answer g room) ≡ true → alone_answer (im.image_bytes g) ≡ Taken
  unfolding alone_answer image_answer
  answer_back w room h =
      let t = acc.contents_taken g room h in
      let b = im.image_bytes g in
      let o = whole_is g t.clear in
      let most = size_most shape k (nodes_range g.n t.shape.nodes).1 t.shape.own in
      let long : ltb (length b) 10 ≡ false = le-ltb (length b) 10 (omega (arith, size_back, most.0)) in
      let shaped : Shaped (im.shape_in b).t (im.shape_in b) = subst (λ (z : Shape). Shaped z.t z) (sym shape_back) (trimmed_shaped g t.shape) in
      let size : eqb (length b) (image_size (im.shape_in b) + 0) ≡ true = eq-eqb _ _ (size_back ∙ sym (trimmed_size g) ∙ ap image_size (sym shape_back) ∙ sym (add-zero (image_size (im.shape_in b)))) in
      let clear : sound (im.image_in b) Taken ≡ Taken =
      rw (image_back o.fits w) (same.sound_same (trimmed g) g (trimmed_alike g) Taken ∙ sound_then g Taken o.sound) in
      rw long (shape_then (im.shape_in b).t (im.shape_in b) _ shaped ∙ rw (size, clear))

-- WRITTEN, THEN READ: the bytes are taken, and give the same N, T, head indices and nodes, blank beyond
pub contents_again : (g : Image) (room : ℕ) → Items g → accepted (write_answer g room) ≡ true →
    read_image (im.image_bytes g) ≡ record { answer = Taken; image = trimmed g }
unfolding read_image
contents_again g room w h =
    let t = acc.contents_taken g room h in
    rw (answer_back g t.shape.form w room h, image_back g t.shape.form (whole_is g t.clear).fits w)

-- and contents with nothing beyond their head lines and nodes come back whole
pub whole_again : (g : Image) (room : ℕ) → Items g → own_threads (im.image_shape g) ≡ g.t → im.heads_of (im.image_shape g) (im.head_in g) ≡ g.heads → g.n ≤ length g.nodes → drop g.n g.nodes ≡ drop g.n im.no_contents →
    accepted (write_answer g room) ≡ true → read_image (im.image_bytes g) ≡ record { answer = Taken; image = g }
whole_again g room w o x l e h = contents_again g room w h ∙ ap (λ (x : Image). record { answer = Taken; image = x }) (trimmed_same g o x l e)

-- what `write_image` leaves in a buffer: the image's bytes in front, and the rest as it was
pub written_is : (g : Image) (b : List ℕ) → accepted (write_answer g (length b)) ≡ true → written g b ≡ im.image_bytes g ++ drop (image_size (im.image_shape g)) b
written_is g b h =
    let t = acc.contents_taken g (length b) h in
    rw h (there.over_front b (im.image_bytes g) (omega (arith, t.long, size_back g t.shape.form)) ∙ ap (λ (k : ℕ). im.image_bytes g ++ drop k b) (size_back g t.shape.form))

-- what was written, read again by `read_image`
pub written_read : (g : Image) (b : List ℕ) → Items g → accepted (write_answer g (length b)) ≡ true →
    read_image (take (image_size (im.image_shape g)) (written g b)) ≡ record { answer = Taken; image = trimmed g }
written_read g b w h =
    let z = image_size (im.image_shape g) in
    ap (λ (l : List ℕ). read_image (take z l)) (written_is g b h)
    ∙ ap read_image (take_at (im.image_bytes g) (drop z b) z (size_back g (acc.contents_taken g (length b) h).shape.form))
    ∙ contents_again g (length b) w h

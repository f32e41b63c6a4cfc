-- THE MENDER ON BYTES, for every image that passes 1, 2, 3, 1, in every form: the mended image is accepted; an accepted one comes back the
-- same with an empty list; only the linked bytes of the listed nodes differ; mending twice is mending once.
use Prim.Native.Nat.{ℕ, zero, suc, ◌+◌, ◌-◌, ◌*◌, ◌≤◌, ◌<◌}
use mathlib.Core.Path.{◌≡◌, refl, sym, ap, ap₂, subst, ◌∙◌}
use mathlib.Core.Bool.{Bool, true, false, not}
use mathlib.Core.List.{List, [], ◌∷◌}
use native.Mathlib.Omega.{arith}
use native.Mathlib.Decide.{dec_lt}
use native.Mathlib.Numerals.{add-one}
use native.Mathlib.Nat.{add-zero}
use borrow.Author.Tests.{eq-eqb, ne_eqb}
use lib.ListN.{length, get_or, drop, get_or-append}
use lib.Seq.{drop_at, take_all}
use lib.Dec.{eqb}
use Rattle.lists.specs.Find.{pick}
use Rattle.lists.specs.Tab.{tab, front}
use Rattle.lists.proofs.BoolLaws.{no_way}
use Rattle.lists.proofs.TabLaws as tabs
use Rattle.answer.specs.Answers.{accepted, Taken}
use Rattle.image.specs.Bytes.{at_w}
use Rattle.image.specs.Form.{known, width_of, heads_at, node_size, head_lines, own_threads, header_size, node_place, image_size}
use Rattle.image.specs.declared.Shape.{Shape}
use Rattle.image.specs.Layout.{no_contents, content_at, head_in, heads_of, image_shape, shape_in, node_bytes, head_bytes, read_content, read_nodes, read_heads, image_in, image_bytes}
use Rattle.image.specs.Refusals.{sound, whole, alone_answer, write_answer, read_image, Read}
use Rattle.image.specs.declared.Content.{Content}
use Rattle.image.specs.declared.Image.{Image}
use Rattle.image.proofs.ByteLaws as num
use Rattle.image.proofs.FormLaws.{size_is, place_next, place_zero}
use Rattle.image.proofs.HeadLaws.{heads_at_lem, heads_same}
use Rattle.image.proofs.SoundLaws.{Fitting, whole_sound, is_fitting}
use Rattle.image.proofs.ShapeLaws.{Shaped, agree_own, nodes_range}
use Rattle.codec.specs.Parts.{Lies, shape}
use Rattle.codec.proofs.Shapes.{own_in, size_place}
use Rattle.codec.proofs.Accepted as acc
use Rattle.codec.proofs.Laws.{head_length}
use Rattle.codec.proofs.Lying.{content_in}
use Rattle.codec.proofs.ReadWrite as there
use Rattle.codec.proofs.WriteRead as back
use Rattle.mending.specs.Mended.{unlinked, mended, reason_at, is_changed, changes}
use Rattle.mending.specs.Bytes.{mend_bytes, mend_list, mend_changed}
use Rattle.mending.proofs.MendLaws as mend
use Rattle.mending.proofs.Turns as turns
use Rattle.mending.proofs.Turns.{nodes_in_lem}
use Rattle.mending.proofs.ListLaws as lists

-- ---- what is read of bytes, and what mending keeps of it

heads_own : (s : List ℕ) → heads_of (shape_in s) (head_in (image_in s)) ≡ (image_in s).heads
unfolding image_in read_heads
heads_own s =
    let z = shape_in s in
    let x : ℕ → ℕ = λ k. at_w (width_of z.form) s (heads_at z.form + k * width_of z.form) in
    heads_same z (λ k. get_or (heads_of z x) k 0) x (heads_at_lem z x)

nodes_beyond : (s : List ℕ) → drop (shape_in s).n (image_in s).nodes ≡ drop (shape_in s).n no_contents
unfolding image_in read_nodes front
nodes_beyond s =
    let z = shape_in s in
    let f : ℕ → Content = λ i. read_content z.form s (node_place z i) in
    drop_at (tab f z.n) (drop z.n no_contents) z.n (tabs.length_tab f z.n)

-- where byte k of an image of n nodes stands, behind its head
record Within (z : Shape) (n k : ℕ) : Type 0 where
  pub node : ℕ
  pub byte : ℕ
  pub below : node < n
  pub inside : byte < node_size z.form
  pub place : k ≡ node_place z node + byte

within : (z : Shape) (n k : ℕ) → header_size z ≤ k → k < node_place z n → Within z n k
within z zero k h l = absurd (omega (arith, place_zero z))
within z (suc n) k h l = by (dec_lt k (node_place z n)) (λ p. within z n k h p)
  where
    by : Dec (k < node_place z n) → (k < node_place z n → Within z n k) → Within z (suc n) k
    by (yes p) r = let w = r p in record { node = w.node; byte = w.byte; below = omega (arith, w.below); inside = w.inside; place = w.place }
    by (no ne) r =
        let e = place_next z n in
        let e' : node_place z (suc n) ≡ node_place z (n + 1) = ap (node_place z) (sym (add-one n)) in
        record { node = n; byte = k - node_place z n; below = omega arith; inside = omega arith; place = omega arith }

-- a node's bytes behind the first are the same, whether its flag is cleared or not
flag_only : (f : ℕ) (c : Bool) (v : Content) (j : ℕ) → 0 < j → get_or (node_bytes f (unlinked c v)) j 0 ≡ get_or (node_bytes f v) j 0
flag_only f c v zero h = absurd (omega arith)
flag_only f c v (suc j) h = refl

module _ (t : ℕ) (s : List ℕ) (b : num.Bytes s) (h : accepted (shape t 0 s Taken) ≡ true) where
  abbrev g : Image
  g = image_in s

  abbrev m : Image
  m = mended (image_in s)

  full : length s ≡ image_size (shape_in s)
  full = (acc.shape_taken t 0 s h).size ∙ add-zero (image_size (shape_in s))

  size : length s ≡ node_place (shape_in s) (shape_in s).n
  size = full ∙ size_place (shape_in s)

  mark : known (shape_in s).form ≡ true
  mark = (acc.shape_taken t 0 s h).shape.form

  lies : Lies s (shape_in s)
  lies = acc.shape_lies t 0 s h

  -- mending keeps the shape
  shape_kept : image_shape m ≡ shape_in s
  shape_kept = (λ k. record { form = mend.mended_form g k; n = mend.size3 g k; t = mend.mended_threads g k }) ∙ turns.shape_own s

  shaped : Shaped m.t (image_shape m)
  shaped =
      let f = (acc.shape_taken t 0 s h).shape in
      subst (λ (z : Shape). Shaped z.t z) (sym shape_kept) (record { form = f.form; nodes = f.nodes; own = f.own; agrees = agree_own (shape_in s) })

  some : 0 < g.n
  some = omega (arith, nodes_in_lem s, (nodes_range (shape_in s).n (acc.shape_taken t 0 s h).shape.nodes).0)

  table : g.n ≤ length g.nodes
  table = omega (arith, nodes_in_lem s, turns.in_length s lies.nodes, lies.nodes)

  same_index : (i : ℕ) → i < g.n → (content_at m.nodes i).index ≡ (content_at g.nodes i).index
  same_index i p = ap (λ (v : Content). v.index) (mend.mended_at g i p)

  same_item : (i : ℕ) → i < g.n → (content_at m.nodes i).item ≡ (content_at g.nodes i).item
  same_item i p = ap (λ (v : Content). v.item) (mend.mended_at g i p)

  fits : Fitting m
  fits =
      let f = there.read_fits s b in
      record {
        head = λ k p. rw (mend.mended_heads g, mend.mended_form g) (f.head k (subst (λ (z : Shape). k < head_lines z) (shape_kept ∙ sym (turns.shape_own s)) p));
        at = λ i p. rw (mend.mended_form g, same_index i (rw (mend.size3 g) at p)) (f.at i (rw (mend.size3 g) at p));
      }

  items : back.Items m
  items i p =
      let q : i < (shape_in s).n = rw (mend.size3 g, nodes_in_lem s) at p in
      rw (same_item i (rw (mend.size3 g) at p), content_in s (shape_in s) i lies q) (num.at_small 4 s (node_place (shape_in s) i + 1 + width_of (shape_in s).form) b)

  known_form : known m.form ≡ true
  known_form = rw (mend.mended_form g, turns.form_in s) mark

  known_own : known g.form ≡ true
  known_own = rw (turns.form_in s) mark

  -- ---- "The mended image is accepted"

  writable : write_answer m (length s) ≡ Taken
  writable =
      let w : whole m Taken ≡ Taken = whole_sound m (ap accepted (mend.mended_sound g some)) ∙ is_fitting m Taken fits in
      acc.write_taken m (length s) shaped (ap accepted w) (omega (arith, full, ap image_size shape_kept))

  threads_kept : own_threads (image_shape m) ≡ m.t
  threads_kept = ap own_threads shape_kept ∙ own_in s ∙ sym (ap (λ (z : Shape). z.t) shape_kept)

  heads_kept : heads_of (image_shape m) (head_in m) ≡ m.heads
  heads_kept =
      ap₂ (λ (z : Shape) (x : List ℕ). heads_of z (λ k. get_or x k 0)) shape_kept (mend.mended_heads g)
      ∙ heads_own s
      ∙ sym (mend.mended_heads g)

  blank_kept : drop m.n m.nodes ≡ drop m.n no_contents
  blank_kept = rw (mend.size3 g) (mend.mended_beyond g ∙ rw (nodes_in_lem s) (nodes_beyond s))

  read_back : read_image (image_bytes m) ≡ record { answer = Taken; image = m }
  read_back = back.whole_again m (length s) items threads_kept heads_kept (omega (arith, mend.size3 g, mend.mended_length g table, table)) blank_kept (ap accepted writable)

  pub mended_accepted : alone_answer (mend_bytes s) ≡ Taken
  unfolding mend_bytes
  mended_accepted = sym (there.read_answer (image_bytes m)) ∙ ap (λ (r : Read). r.answer) read_back

  -- its bytes hold the mended image, and nothing else
  pub mended_read : image_in (mend_bytes s) ≡ mended (image_in s)
  unfolding mend_bytes
  mended_read = sym (there.read_image_lem (image_bytes m) (ap accepted mended_accepted)) ∙ ap (λ (r : Read). r.image) read_back

  -- ---- mending twice is mending once

  pub twice_once : (mend_bytes (mend_bytes s) ≡ mend_bytes s) × (mend_list (mend_bytes s) ≡ [])
  unfolding mend_bytes mend_list
  twice_once =
      let n : (shape_in (image_bytes m)).n ≡ m.n = sym (nodes_in_lem (image_bytes m)) ∙ ap (λ (g : Image). g.n) mended_read in
      let t : m.n ≤ length m.nodes = omega (arith, mend.size3 g, mend.mended_length g table, table) in
      let ok = ap accepted (mend.mended_sound g some) in (
        ap (λ (g : Image). image_bytes (mended g)) mended_read ∙ ap image_bytes (mend.mended_once g some table),
        ap₂ changes mended_read n ∙ lists.changes_empty m m.n (mend.accepted_reasons m t ok),
      )

  -- ---- "Nothing else is touched": byte by byte

  pub own_bytes : image_bytes (image_in s) ≡ s
  own_bytes = there.shape_again s b (acc.shape_taken t 0 s h).mark (omega (arith, full)) ∙ take_all (image_size (shape_in s)) s (omega (arith, full))

  pub mended_size : length (mend_bytes s) ≡ length s
  unfolding mend_bytes
  mended_size = back.size_back m known_form ∙ ap image_size shape_kept ∙ sym full

  mended_byte : (i j : ℕ) → i < (shape_in s).n → j < node_size (shape_in s).form
      → get_or (mend_bytes s) (node_place (shape_in s) i + j) 0 ≡ get_or (node_bytes (shape_in s).form (unlinked (is_changed g i) (content_at g.nodes i))) j 0
  unfolding mend_bytes back.node_of is_changed
  mended_byte i j p q =
      let f : m.form ≡ (shape_in s).form = mend.mended_form g ∙ turns.form_in s in
      let e = back.at_node m known_form i j (rw (mend.size3 g, nodes_in_lem s) p) (rw f q) in
      ap (λ (z : Shape). get_or (image_bytes m) (node_place z i + j) 0) (sym shape_kept)
      ∙ e
      ∙ ap₂ (λ (k : ℕ) (v : Content). get_or (node_bytes k v) j 0) f (mend.mended_at g i (rw (nodes_in_lem s) p))

  own_byte : (i j : ℕ) → i < (shape_in s).n → j < node_size (shape_in s).form → get_or s (node_place (shape_in s) i + j) 0 ≡ get_or (node_bytes (shape_in s).form (content_at g.nodes i)) j 0
  unfolding back.node_of
  own_byte i j p q =
      let f = turns.form_in s in
      let e = back.at_node g known_own i j (rw (nodes_in_lem s) p) (rw f q) in
      ap (λ l. get_or l (node_place (shape_in s) i + j) 0) (sym own_bytes)
      ∙ ap (λ (z : Shape). get_or (image_bytes g) (node_place z i + j) 0) (sym (turns.shape_own s))
      ∙ e
      ∙ ap (λ k. get_or (node_bytes k (content_at g.nodes i)) j 0) f

  head_byte : (k : ℕ) → k < header_size (shape_in s) → get_or (mend_bytes s) k 0 ≡ get_or s k 0
  unfolding mend_bytes image_bytes
  head_byte k p =
      let hm = head_bytes (image_shape m) (head_in m) in
      let hg = head_bytes (image_shape g) (head_in g) in
      let same : hm ≡ hg =
      ap₂ (λ (z : Shape) (l : List ℕ). head_bytes z (λ k. get_or l k 0)) (shape_kept ∙ sym (turns.shape_own s)) (mend.mended_heads g) in
      let l = head_length (image_shape g) (head_in g) known_own in
      let q : k < length hg = omega (arith, p, l, ap header_size (turns.shape_own s)) in
      get_or-append hm _ 0 k (omega (arith, q, ap length same))
      ∙ ap (λ (l : List ℕ). get_or l k 0) same
      ∙ sym (get_or-append hg _ 0 k q)
      ∙ ap (λ (l : List ℕ). get_or l k 0) own_bytes

  -- the linked byte of a listed node was not 0, and is now
  pub listed_cleared : (i : ℕ) → i < (shape_in s).n → is_changed (image_in s) i ≡ true
      → (0 < get_or s (node_place (shape_in s) i) 0) × (get_or (mend_bytes s) (node_place (shape_in s) i) 0 ≡ 0)
  unfolding is_changed
  listed_cleared i p e =
      let z : 0 < node_size (shape_in s).form = omega (arith, size_is (shape_in s).form mark) in
      let at : node_place (shape_in s) i ≡ node_place (shape_in s) i + 0 = sym (add-zero (node_place (shape_in s) i)) in
      let own = ap (λ k. get_or s k 0) at ∙ own_byte i 0 p z in
      let set = mend.reason_set g i (rw (nodes_in_lem s) p) (λ r. no_way (sym e ∙ ap not (eq-eqb (reason_at g i) 0 r))) in (
        omega (arith, own, set),
        ap (λ k. get_or (mend_bytes s) k 0) at ∙ mended_byte i 0 p z ∙ ap (λ c. pick c 0 (content_at g.nodes i).linked) e,
      )

  -- and every other byte is the same
  pub others_same : (k : ℕ) → k < length s → ((i : ℕ) → i < (shape_in s).n → is_changed (image_in s) i ≡ true → k ≡ node_place (shape_in s) i → ⊥) → get_or (mend_bytes s) k 0 ≡ get_or s k 0
  others_same k l ne = by (dec_lt k (header_size (shape_in s)))
    where
      flag : (i : ℕ) → (c : Bool) → is_changed g i ≡ c → (c ≡ true → ⊥) → get_or (node_bytes (shape_in s).form (unlinked (is_changed g i) (content_at g.nodes i))) 0 0 ≡ get_or (node_bytes (shape_in s).form (content_at g.nodes i)) 0 0
      flag i true e n = absurd (n refl)
      flag i false e n = ap (λ c. pick c 0 (content_at g.nodes i).linked) e

      in_node : (i j : ℕ) → i < (shape_in s).n → j < node_size (shape_in s).form → k ≡ node_place (shape_in s) i + j → Dec (0 < j) → get_or (mend_bytes s) k 0 ≡ get_or s k 0
      in_node i j p q e (yes r) =
          rw e (mended_byte i j p q ∙ flag_only (shape_in s).form (is_changed g i) (content_at g.nodes i) j r ∙ sym (own_byte i j p q))
      in_node i j p q e (no r) =
          let z : j ≡ 0 = omega arith in
          let o : 0 < node_size (shape_in s).form = omega (arith, q) in
          let f : k ≡ node_place (shape_in s) i + 0 = e ∙ ap (λ j. node_place (shape_in s) i + j) z in
          let n : is_changed g i ≡ true → ⊥ = λ c. ne i p c (f ∙ add-zero (node_place (shape_in s) i)) in
          rw f (mended_byte i 0 p o ∙ flag i (is_changed g i) refl n ∙ sym (own_byte i 0 p o))

      by : Dec (k < header_size (shape_in s)) → get_or (mend_bytes s) k 0 ≡ get_or s k 0
      by (yes p) = head_byte k p
      by (no p) =
          let w = within (shape_in s) (shape_in s).n k (omega arith) (omega (arith, size)) in
          in_node w.node w.byte w.below w.inside w.place (dec_lt 0 w.byte)

  -- so a node is listed exactly where its linked byte has changed
  pub listed_exactly : (i : ℕ) → i < (shape_in s).n → is_changed (image_in s) i ≡ not (eqb (get_or (mend_bytes s) (node_place (shape_in s) i) 0) (get_or s (node_place (shape_in s) i) 0))
  listed_exactly i p = by (is_changed g i) refl
    where
      at : ℕ
      at = node_place (shape_in s) i

      z : 0 < node_size (shape_in s).form
      z = omega (arith, size_is (shape_in s).form mark)

      by : (c : Bool) → is_changed g i ≡ c → is_changed g i ≡ not (eqb (get_or (mend_bytes s) (node_place (shape_in s) i) 0) (get_or s (node_place (shape_in s) i) 0))
      by true e =
          let r = listed_cleared i p e in
          e ∙ sym (ap not (ne_eqb (get_or (mend_bytes s) (node_place (shape_in s) i) 0) (get_or s (node_place (shape_in s) i) 0) (omega (arith, r.0, r.1))))
      by false e =
          let same : get_or (mend_bytes s) (node_place (shape_in s) i) 0 ≡ get_or s (node_place (shape_in s) i) 0 =
          ap (λ k. get_or (mend_bytes s) k 0) (sym (add-zero (node_place (shape_in s) i)))
          ∙ mended_byte i 0 p z
          ∙ ap (λ c. pick c 0 (content_at g.nodes i).linked) e
          ∙ sym (own_byte i 0 p z)
          ∙ ap (λ k. get_or s k 0) (add-zero (node_place (shape_in s) i)) in
          e ∙ sym (ap not (eq-eqb (get_or (mend_bytes s) (node_place (shape_in s) i) 0) (get_or s (node_place (shape_in s) i) 0) same))

  -- "A list with an 8 has no other entry"
  pub eight_alone : (i : ℕ) → i < (shape_in s).n → reason_at (image_in s) i ≡ 8 → mend_list s ≡ i ∷ 8 ∷ []
  unfolding mend_list
  eight_alone i p e = ap (changes g) (sym (nodes_in_lem s)) ∙ lists.eight_alone g i (rw (nodes_in_lem s) p) e

-- ---- "an accepted image comes back the same with an empty list"

pub accepted_back : (s : List ℕ) → num.Bytes s → accepted (alone_answer s) ≡ true → (mend_bytes s ≡ s) × ((mend_list s ≡ []) × (mend_changed s ≡ 0))
unfolding mend_bytes mend_list mend_changed
accepted_back s b a =
    let e = acc.shaped (shape_in s).t 0 s (sound (image_in s) Taken) (sym (ap accepted (acc.alone_is s ∙ acc.answer_shape (shape_in s).t 0 s)) ∙ a) in
    let t = table (shape_in s).t s b e.0 in
    let none : (i : ℕ) → i < (shape_in s).n → reason_at (image_in s) i ≡ 0 = λ i p. mend.accepted_reasons (image_in s) t e.1 i (rw (nodes_in_lem s) p) in (
      ap image_bytes (mend.accepted_same (image_in s) t e.1) ∙ own_bytes (shape_in s).t s b e.0,
      (lists.changes_empty (image_in s) (shape_in s).n none, lists.changed_zero (image_in s) (shape_in s).n none),
    )

-- An ending's line is its number and what the slots tell.
use Prim.Native.Nat.{ℕ, ◌+◌, ◌-◌, ◌*◌, ◌/◌, ◌%◌, ◌≤◌, ◌<◌}
use mathlib.Core.Path.{◌≡◌, refl, sym, ap, ap₂, subst, ◌∙◌}
use mathlib.Core.Bool.{Bool, true, false}
use mathlib.Core.List.{List, [], ◌++◌, map, append_assoc}
use native.Mathlib.Omega.{arith}
use native.Mathlib.Decide.{dec_lt}
use borrow.Author.Tests.{eq-eqb, ne_eqb, lt-ltb, le-ltb, eqb-true, ltb-true}
use lib.Dec.{eqb, ltb}
use lib.ListN.{length, get_or, take, drop, get_or-append}
use lib.Seq.{get_or-take}
use Rattle.lists.specs.Find.{pick, both}
use Rattle.lists.specs.Tab.{joined}
use Rattle.lists.specs.Text.{text, decimal}
use Rattle.lists.proofs.TabLaws as tabs
use Rattle.lists.proofs.BoolLaws.{both_true}
use Rattle.image.specs.declared.Content.{Content}
use Rattle.image.specs.declared.Image.{Image}
use Rattle.image.specs.Layout.{content_at, image_shape, no_contents}
use Rattle.image.specs.Form.{head_lines, own_threads, per_desk}
use Rattle.image.specs.declared.Shape.{Shape}
use Rattle.image.specs.Recovered.{largest, head_of, recovered, recovered_at}
use Rattle.image.proofs.HeadLaws.{heads_at_lem, head_is as largest_is, lines_same}
use Rattle.machine.specs.Line.{line_count}
use Rattle.machine.specs.Start.{queue_of}
use Rattle.page.specs.Printed.{items_of, items_text, spaced, newline, ending_line}
use Rattle.endtable.specs.Opened.{blank_counts}
use Rattle.endtable.specs.Picks.{Ready, picks_of, digits, picked_at, picked_node, picked_image}
use Rattle.endtable.proofs.Digits as picks
use Rattle.endtable.proofs.OwnLaws.{own_desks}
use Rattle.sheet.specs.Marks.{slot_content, mark_of, mark_at, marks_of, items_in, slot_count}
use Rattle.sheet.specs.Order.{ordered, rank_in}
use Rattle.sheet.specs.Told.{is_told, piece_if, piece_of, piece_at, head_mark, told_to, told_end, closing}
use Rattle.sheet.proofs.MarkLaws as marks
use Rattle.sheet.proofs.OrderLaws as orders
use Rattle.sheet.proofs.OrderLaws.{kept, chosen}
use Rattle.sheet.proofs.ChosenLaws as chosens
use Rattle.sheet.proofs.TextLaws as texts

-- each choice is one of its line's contents
pub pick_below : (cs : List ℕ) (z : Shape) (k : ℕ) → Ready cs (line_count z) → (l : ℕ) → l < line_count z → get_or (picks_of cs z k) l 0 < get_or cs l 0
unfolding picks_of
pick_below cs z k r l h =
    let e = get_or-append (digits cs (line_count z) k) (drop (line_count z) blank_counts) 0 l (omega (arith, picks.length_digits cs (line_count z) k)) in
    omega (arith, e, picks.digit_below cs (line_count z) k r.0 l h)

-- the largest index of one head line is that line's
largest_one : (l : List ℕ) → largest l 1 ≡ get_or l 0 0
unfolding largest
largest_one l = by (dec_lt 0 (get_or l 0 0))
  where
    by : Dec (0 < get_or l 0 0) → pick (ltb 0 (get_or l 0 0)) (get_or l 0 0) 0 ≡ get_or l 0 0
    by (yes h) = rw (lt-ltb 0 (get_or l 0 0) h)
    by (no h) = rw (le-ltb 0 (get_or l 0 0) (omega arith)) (let e : 0 ≡ get_or l 0 0 = omega arith in e)

-- an image picked in a shape has its head lines
picked_heads : (t : List (List Content)) (ps : List ℕ) (z : Shape) → head_lines (image_shape (picked_image t ps z)) ≡ head_lines z
unfolding picked_image per_desk
picked_heads t ps z = lines_same z.form z.n (own_threads z) z.n z.t (λ d. sym (own_desks z (eqb-true z.form 4 d)))

module _ (t : List (List Content)) (cs : List ℕ) (z : Shape) (one : head_lines z ≡ 1) (ps : List ℕ)
    (below : (l : ℕ) → l < line_count z → get_or ps l 0 < get_or cs l 0)
    (few : (l : ℕ) → l < line_count z → get_or cs l 0 ≤ 16) where
  abbrev pub n : ℕ
  n = z.n

  abbrev pub g : Image
  g = picked_image t ps z

  abbrev pub ranks : List ℕ
  ranks = marks_of t cs (slot_count n)

  abbrev pub items : List ℕ
  items = items_in t (slot_count n)

  abbrev pub head : ℕ
  head = head_mark ranks ps

  pub sel : ℕ → Bool
  sel e = is_told (get_or ps (e / 16) 0) (e % 16) head (get_or ranks e 0)

  node : ℕ → ℕ
  node e = e / 16 - 1

  pick_small : (l : ℕ) → l < line_count z → get_or ps l 0 < 16
  pick_small l h = omega (arith, below l h, few l h)

  -- ---- the head

  pub head_is : head_of g ≡ head
  unfolding picked_image picked_at slot_content mark_at
  head_is =
      let p = get_or ps 0 0 in
      let s = pick_small 0 (omega (arith, one)) in
      let m : get_or ranks p 0 ≡ (slot_content t p).index = marks.mark_at_lem t cs (slot_count n) p (omega (arith, one)) ∙ sym (marks.mark_head (slot_content t p) p (get_or cs (p / 16) 0) s) in
      let a : p / 16 ≡ 0 = omega arith in
      let b : p % 16 ≡ p = omega arith in
      sym (largest_is g)
      ∙ ap (largest g.heads) (picked_heads t ps z ∙ one)
      ∙ largest_one g.heads
      ∙ heads_at_lem z (λ k. (content_at (get_or t k []) (get_or ps k 0)).index) 0 (omega (arith, one))
      ∙ ap₂ (λ (l j : ℕ). (content_at (get_or t l []) j).index) (sym a) (sym b)
      ∙ sym m

  -- ---- a node's slot

  content_is : (i : ℕ) → i < n → content_at g.nodes i ≡ content_at (get_or t (1 + i) []) (get_or ps (1 + i) 0)
  unfolding picked_image picked_at
  content_is i h =
      tabs.front_at (picked_node t ps z) n no_contents i _ h ∙ ap (λ (l : ℕ). content_at (get_or t l []) (get_or ps l 0)) (ap (λ (x : ℕ). x + i) (one))

  slot_content_lem : (i e : ℕ) → i < n → e / 16 ≡ 1 + i → get_or ps (1 + i) 0 ≡ e % 16 → content_at g.nodes i ≡ slot_content t e
  unfolding slot_content
  slot_content_lem i e h a b = content_is i h ∙ ap₂ (λ (l j : ℕ). content_at (get_or t l []) j) (sym a) b

  -- a slot's rank, of a content that its line has
  rank_is : (e : ℕ) → 16 ≤ e → e < slot_count n → e % 16 < get_or cs (e / 16) 0 → get_or ranks e 0 ≡ pick (eqb (slot_content t e).linked 1) (slot_content t e).index 0
  unfolding mark_at mark_of
  rank_is e h l j =
      marks.mark_at_lem t cs (slot_count n) e l
      ∙ ap₂ (λ (a b : Bool). pick a (slot_content t e).index (pick b (pick (eqb (slot_content t e).linked 1) (slot_content t e).index 0) 0)) (le-ltb e 16 h) (lt-ltb (e % 16) (get_or cs (e / 16) 0) j)

  rank_recovered : (h : ℕ) (c : Content) → ltb h (pick (eqb c.linked 1) c.index 0) ≡ recovered h c
  unfolding recovered
  rank_recovered h c = by (eqb c.linked 1)
    where
      by : (b : Bool) → ltb h (pick b c.index 0) ≡ both b (ltb h c.index)
      by true = refl
      by false = le-ltb h 0 (omega arith)

  -- ---- what the slots' order asks

  in_slots : (i j : ℕ) → i < n → j < 16 → (16 ≤ 16 + (i * 16 + j)) × (16 + (i * 16 + j) < slot_count n)
  in_slots i j h l = (omega arith, omega (arith, one))

  slot_line : (i j : ℕ) → j < 16 → ((16 + (i * 16 + j)) / 16 ≡ 1 + i) × ((16 + (i * 16 + j)) % 16 ≡ j)
  slot_line i j l = (omega arith, omega arith)

  slot_others : (i j : ℕ) → i < n → j < 16 → (j ≡ get_or ps (1 + i) 0 → ⊥) → sel (16 + (i * 16 + j)) ≡ false
  unfolding sel
  slot_others i j h l x =
      let e = 16 + (i * 16 + j) in
      let w = slot_line i j l in
      ap (λ (b : Bool). both b (ltb head (get_or ranks e 0)))
      (ap₂ (λ (l k : ℕ). eqb (get_or ps l 0) k) w.0 w.1 ∙ ne_eqb (get_or ps (1 + i) 0) j (λ q. x (sym q)))

  slot_told : (i : ℕ) → i < n → sel (16 + (i * 16 + get_or ps (1 + i) 0)) ≡ recovered_at g i
  unfolding sel
  slot_told i h =
      let j = get_or ps (1 + i) 0 in
      let s = pick_small (1 + i) (omega (arith, one)) in
      let e = 16 + (i * 16 + j) in
      let w = slot_line i j s in
      let r = in_slots i j h s in
      ap (λ (b : Bool). both b (ltb head (get_or ranks e 0))) (ap₂ (λ (l k : ℕ). eqb (get_or ps l 0) k) w.0 w.1 ∙ eq-eqb j j refl)
      ∙ ap (ltb head) (rank_is e r.0 r.1 (subst (λ (l : ℕ). e % 16 < get_or cs l 0) (sym w.0) (omega (arith, w.1, below (1 + i) (omega (arith, one))))))
      ∙ rank_recovered head (slot_content t e)
      ∙ ap₂ recovered (sym head_is) (sym (slot_content_lem i e h w.0 (sym w.1)))

  slot_node : (i j : ℕ) → i < n → j < 16 → node (16 + (i * 16 + j)) ≡ i
  unfolding node
  slot_node i j h l = omega arith

  -- what is told is chosen, and of a rank above the head
  sel_says : (e : ℕ) → sel e ≡ true → (get_or ps (e / 16) 0 ≡ e % 16) × (head < get_or ranks e 0)
  unfolding sel
  sel_says e s =
      let b = both_true (eqb (get_or ps (e / 16) 0) (e % 16)) (ltb head (get_or ranks e 0)) s in
      (eqb-true (get_or ps (e / 16) 0) (e % 16) b.0, ltb-true head (get_or ranks e 0) b.1)

  node_in : (e : ℕ) → 16 ≤ e → e < 16 + n * 16 → (node e < n) × (e / 16 ≡ 1 + node e)
  unfolding node
  node_in e h l = (omega arith, omega arith)

  told_content : (e : ℕ) → sel e ≡ true → 16 ≤ e → e < 16 + n * 16 → content_at g.nodes (node e) ≡ slot_content t e
  told_content e s h l =
      let i = node_in e h l in
      slot_content_lem (node e) e i.0 i.1 (ap (λ (l : ℕ). get_or ps l 0) (sym i.1) ∙ (sel_says e s).0)

  above_none : (x : ℕ) (b : Bool) (h : ℕ) → h < pick b x 0 → pick b x 0 ≡ x
  above_none x true h l = refl
  above_none x false h l = absurd (omega arith)

  slot_ranks : (e : ℕ) → sel e ≡ true → 16 ≤ e → e < 16 + n * 16 → rank_in ranks e ≡ (content_at g.nodes (node e)).index
  slot_ranks e s h l =
      let q = sel_says e s in
      let i = node_in e h l in
      let c : e % 16 < get_or cs (e / 16) 0 = omega (arith, q.0, below (e / 16) (omega (arith, one, i.0, i.1))) in
      let r = rank_is e h (omega (arith, one)) c in
      r
      ∙ above_none (slot_content t e).index (eqb (slot_content t e).linked 1) head (omega (arith, q.1, r))
      ∙ ap (λ (v : Content). v.index) (sym (told_content e s h l))

  -- ---- the line

  abbrev pub order : List ℕ
  order = ordered (rank_in ranks) 16 (n * 16)

  kept_chosen : kept sel order ≡ chosen (rank_in ranks) sel 16 (n * 16)
  kept_chosen = orders.kept_ordered (rank_in ranks) sel (λ e s. omega (arith, (sel_says e s).1)) 16 (n * 16)

  pub items_are : items_of g ≡ map (λ e. get_or items e 0) (kept sel order)
  unfolding items_of picked_image
  items_are =
      let q : queue_of g ≡ map node (chosen (rank_in ranks) sel 16 (n * 16)) =
      sym (chosens.chosen_risen g n (rank_in ranks) sel 16 node (λ i. get_or ps (1 + i) 0)
      (λ i h. pick_small (1 + i) (omega (arith, one)))
      slot_others
      slot_told
      slot_node
      slot_ranks
      n (omega arith)) in
      ap (map (λ i. (content_at g.nodes i).item)) q
      ∙ texts.map_map (λ i. (content_at g.nodes i).item) node (chosen (rank_in ranks) sel 16 (n * 16))
      ∙ texts.map_each (λ e. (content_at g.nodes (node e)).item) (λ e. get_or items e 0) (chosen (rank_in ranks) sel 16 (n * 16))
      (orders.each_map (λ e. (sel e ≡ true) × (16 ≤ e) × (e < 16 + n * 16)) (λ e. (content_at g.nodes (node e)).item ≡ get_or items e 0) (chosen (rank_in ranks) sel 16 (n * 16))
      (λ e z. ap (λ (v : Content). v.item) (told_content e z.0 z.1 z.2) ∙ sym (marks.item_at t (slot_count n) e (omega (arith, one, z.2))))
      (chosens.chosen_among (rank_in ranks) sel 16 (n * 16)))
      ∙ ap (map (λ e. get_or items e 0)) (sym kept_chosen)

  spaced_are : (slots : List ℕ) (c : ℕ) → take c slots ≡ order → c ≡ length order → spaced (items_of g) ≡ joined (piece_at ranks items slots ps head) c
  unfolding piece_at piece_of sel
  spaced_are slots c h l =
      ap spaced items_are
      ∙ texts.all_spaced sel (λ e. get_or items e 0) order
      ∙ sym (texts.joined_all (λ e. piece_if (get_or items e 0) (sel e)) order)
      ∙ ap (joined (λ p. piece_if (get_or items (get_or order p 0) 0) (sel (get_or order p 0)))) (sym l)
      ∙ tabs.joined_same (λ p. piece_if (get_or items (get_or order p 0) 0) (sel (get_or order p 0))) (piece_at ranks items slots ps head) c
      (λ p q. ap (λ (e : ℕ). piece_if (get_or items e 0) (sel e)) (ap (λ (z : List ℕ). get_or z p 0) (sym h) ∙ get_or-take c slots p 0 q))

  pub line_told_lem : (slots : List ℕ) (c k : ℕ) → take c slots ≡ order → c ≡ length order
      → ending_line k g ≡ decimal k ++ told_end ranks items slots ps head c
  unfolding ending_line told_end told_to
  line_told_lem slots c k h l =
      let x = joined (piece_at ranks items slots ps head) c in
      let y = text " " ++ decimal head in
      ap (λ (z : ℕ). decimal k ++ text " " ++ decimal z ++ items_text (items_of g) ++ newline) head_is
      ∙ append_assoc (decimal k ++ text " " ++ decimal head) (items_text (items_of g)) newline
      ∙ ap (λ (z : List ℕ). decimal k ++ text " " ++ decimal head ++ z) (texts.items_closed (items_of g) ∙ ap (λ (z : List ℕ). z ++ closing z) (spaced_are slots c h l))
      ∙ ap (λ (z : List ℕ). z ++ (x ++ closing x)) (append_assoc (decimal k) (text " ") (decimal head))
      ∙ append_assoc (decimal k) y (x ++ closing x)
      ∙ ap (λ (z : List ℕ). decimal k ++ z) (sym (append_assoc y x (closing x)))

-- A start of accepted contents is what the paper says of it, sentence by sentence. Assumes nothing.
use Prim.Native.Nat.{ℕ, suc, ◌≤◌, ◌<◌}
use mathlib.Core.Path.{◌≡◌, refl, sym, ap, ap₂, ◌∙◌}
use mathlib.Core.Bool.{true, false, not}
use mathlib.Core.List.{List, [], ◌∷◌, ◌++◌}
use mathlib.Core.Logic.{◌≢◌, inl, inr}
use native.Mathlib.Omega.{arith}
use borrow.Author.Tests.{eq-eqb, ne_eqb, ltb-true}
use lib.Dec.{eqb, ltb}
use lib.ListN.{length, get_or, take, drop, take-append-drop, get_or-replicate}
use Rattle.lists.specs.Find.{both}
use Rattle.lists.specs.Tab.{tab, front}
use Rattle.lists.specs.Word.{has}
use Rattle.lists.proofs.BoolLaws.{no_way, both_true}
use Rattle.lists.proofs.TabLaws as tabs
use Rattle.answer.specs.Answers.{accepted, Taken}
use Rattle.image.specs.declared.Content.{Content}
use Rattle.image.specs.declared.Image.{Image}
use Rattle.image.specs.Form.{head_lines}
use Rattle.image.specs.Layout.{no_content, no_contents, content_at, image_shape, head_in}
use Rattle.image.specs.Recovered.{head_of, recovered, recovered_at, dummy_of}
use Rattle.image.proofs.HeadLaws.{heads_at_lem}
use Rattle.machine.specs.Record.{none, node, thread, kept, head_at, kept_head, content_of, zero_node, zero_thread, blank_nodes, idle_thread, idle_threads}
use Rattle.image.specs.Form.{own_threads}
use Rattle.image.specs.Refusals.{agree}
use Rattle.image.proofs.HeadLaws.{lines_same}
use Rattle.image.proofs.ShapeLaws.{agree_is}
use Rattle.machine.specs.Line.{shape_of, persisted}
use Rattle.machine.specs.Stage.{busy}
use Rattle.machine.specs.Start.{queue_of, start_heads, start_node, start_with, start_of, start_answer, start_from, spare}
use Rattle.machine.specs.Rising.{among, Rising}
use Rattle.machine.specs.declared.Node.{Node}
use Rattle.machine.proofs.AcceptedLaws.{Accepted, accepted_start, taken_start, dummy_spare, dummy_lowest}
use Rattle.machine.proofs.AnswerLaws.{start_taken}
use Rattle.machine.proofs.RisenLaws.{risen_in, risen_all, risen_up, among_get_or}
use Rattle.machine.proofs.LinkLaws as links
use Rattle.lists.proofs.WordLaws.{has_word_of, word_of_lt, has_beyond}

-- ---- the tables of any start

module _ (g : Image) (t : ℕ) where
  pub node_is : (i : ℕ) → i < g.n → node (start_of g t) i ≡ start_node g (dummy_of g) (queue_of g) i
  unfolding start_with
  node_is i h = tabs.front_at (start_node g (dummy_of g) (queue_of g)) g.n blank_nodes i zero_node h

  -- "persisted copies stay"
  pub kept_is : (i : ℕ) → i < g.n → kept (start_of g t) i ≡ content_at g.nodes i
  unfolding start_with
  kept_is i h = tabs.front_at (content_at g.nodes) g.n no_contents i no_content h

  -- as an image they are the one that was read, where that holds nothing from N on
  pub persisted_is : g.n ≤ length g.nodes → drop g.n g.nodes ≡ drop g.n no_contents → start_heads g ≡ g.heads
      → own_threads (shape_of (start_of g t)) ≡ g.t → persisted (start_of g t) ≡ g
  unfolding start_with front
  persisted_is h e i o =
      let same : tab (content_at g.nodes) g.n ≡ take g.n g.nodes = sym (tabs.take_drop_tab g.nodes no_content 0 g.n (omega arith) ∙ tabs.tab_same _ (content_at g.nodes) g.n (λ i p. ap (content_at g.nodes) (omega arith))) in
      rw o
      (ap₂ (λ (x : List ℕ) (l : List Content). record { form = g.form; n = g.n; t = g.t; heads = x; nodes = l }) i (ap₂ (λ (a b : List Content). a ++ b) same (sym e) ∙ take-append-drop g.n g.nodes))

  pub kept_head_is : (k : ℕ) → k < head_lines (image_shape g) → kept_head (start_of g t) k ≡ head_in g k
  unfolding start_with
  kept_head_is k h = heads_at_lem (image_shape g) (head_in g) k h

  pub sizes_are : ((start_of g t).n ≡ g.n) × ((start_of g t).t ≡ t)
  unfolding start_with
  sizes_are = (refl, refl)

  pub form_is : (start_of g t).form ≡ g.form
  unfolding start_with
  form_is = refl

  -- "Head points at it with the head index unchanged"; #101: "and alters none"
  pub head_is : (start_of g t).head ≡ dummy_of g
  unfolding start_with
  head_is = refl

  pub heads_are : (k : ℕ) → k < head_lines (image_shape g) → head_at (start_of g t) k ≡ head_in g k
  unfolding start_with
  heads_are k h = heads_at_lem (image_shape g) (head_in g) k h

  -- the lines of a start are those of its image
  pub lines_are : agree t (image_shape g) ≡ true → head_lines (shape_of (start_of g t)) ≡ head_lines (image_shape g)
  unfolding start_with
  lines_are a = lines_same g.form g.n t g.n g.t (λ d. sym (agree_is t (image_shape g) a d))

  -- "Tail is the last node"
  pub tail_is : (start_of g t).tail ≡ get_or (dummy_of g ∷ queue_of g) (length (queue_of g)) 0
  unfolding start_with
  tail_is = links.last_at (dummy_of g) (queue_of g)

  -- "no thread has an operation, no node is held"
  pub thread_is : (k : ℕ) → k < 8 → thread (start_of g t) k ≡ idle_thread 255
  unfolding start_with idle_threads
  thread_is k h = get_or-replicate 8 k (idle_thread 255) zero_thread h

  pub all_idle : (k : ℕ) → k < 8 → (busy (start_of g t) k ≡ false) × ((thread (start_of g t) k).held ≡ none)
  all_idle k h = let e = thread_is k h in (rw e, rw e)

  -- "no node is .. waiting"
  pub none_waits : (i : ℕ) → i < g.n → (node (start_of g t) i).waits ≡ 0
  none_waits i h = ap (λ (v : Node). v.waits) (node_is i h)

  -- "All other nodes are free": all below N but the dummy and the recovered ones
  pub free_is : (i : ℕ) → i < g.n → has (start_of g t).free i ≡ both (not (eqb i (dummy_of g))) (not (recovered_at g i))
  unfolding start_with
  free_is i h = has_word_of (spare g (dummy_of g)) g.n i h

  pub free_beyond : (i : ℕ) → g.n ≤ i → has (start_of g t).free i ≡ false
  unfolding start_with
  free_beyond i h = has_beyond g.n (start_of g t).free i (word_of_lt (spare g (dummy_of g)) g.n) h

  -- ---- the queue: "Recovered nodes form the queue"

  pub queue_in_lem : (i : ℕ) → among i (queue_of g) → (i < g.n) × (recovered_at g i ≡ true)
  queue_in_lem i h = risen_in g g.n i h

  pub queue_all : (i : ℕ) → i < g.n → recovered_at g i ≡ true → among i (queue_of g)
  queue_all i h e = risen_all g g.n i h e

-- ---- the start of accepted contents

module _ (g : Image) (t : ℕ) (ok : accepted (start_answer g t) ≡ true) where
  fit : Accepted g t
  fit = accepted_start g t ok

  -- what the call hands back
  pub start_gives : start_from g t ≡ record { answer = Taken; machine = start_of g t }
  start_gives = start_taken g t (taken_start g t ok)

  -- "The lowest-numbered node that is not recovered becomes the dummy"
  pub dummy_is : (dummy_of g < g.n) × (recovered_at g (dummy_of g) ≡ false) × ((j : ℕ) → j < dummy_of g → recovered_at g j ≡ true)
  dummy_is = (fit.dummy, dummy_spare g fit.dummy, dummy_lowest g)

  -- "its cached index becomes the head index"; its flag and item are as read
  pub dummy_node :
      ((node (start_of g t) (dummy_of g)).index ≡ head_of g)
      × ((node (start_of g t) (dummy_of g)).linked ≡ (content_at g.nodes (dummy_of g)).linked)
      × ((node (start_of g t) (dummy_of g)).item ≡ (content_at g.nodes (dummy_of g)).item)
  dummy_node =
      let e = node_is g t (dummy_of g) fit.dummy in
      let f = eq-eqb (dummy_of g) (dummy_of g) refl in
      (ap (λ (v : Node). v.index) e ∙ rw f, ap (λ (v : Node). v.linked) e, ap (λ (v : Node). v.item) e)

  -- "each cached copy is read anew from its persisted copy"
  pub cached_is : (i : ℕ) → i < g.n → i ≢ dummy_of g → content_of (node (start_of g t) i) ≡ content_at g.nodes i
  cached_is i h ne = ap content_of (node_is g t i h) ∙ rw (ne_eqb i (dummy_of g) ne)

  -- ".. in rising index"
  pub queue_rises : Rising (λ i. (content_at g.nodes i).index) (queue_of g)
  queue_rises = risen_up g g.n fit.single

  -- each node once
  pub queue_once : (p q : ℕ) → p < length (queue_of g) → q < length (queue_of g) → get_or (queue_of g) p 0 ≡ get_or (queue_of g) q 0 → p ≡ q
  queue_once = links.rising_once (λ i. (content_at g.nodes i).index) (queue_of g) queue_rises

  not_dummy : (i : ℕ) → recovered_at g i ≡ true → i ≢ dummy_of g
  not_dummy i e z = no_way (sym (rw z at e) ∙ dummy_spare g fit.dummy)

  above : (i : ℕ) → recovered_at g i ≡ true → head_of g < (content_at g.nodes i).index
  unfolding recovered
  above i e = ltb-true (head_of g) (content_at g.nodes i).index (both_true (eqb (content_at g.nodes i).linked 1) (ltb (head_of g) (content_at g.nodes i).index) e).1

  cached_index : (i : ℕ) → among i (queue_of g) → (node (start_of g t) i).index ≡ (content_at g.nodes i).index
  cached_index i h = let r = queue_in_lem g t i h in ap (λ (c : Content). c.index) (cached_is i r.0 (not_dummy i r.1))

  -- the dummy with the queue behind it rises by cached index
  pub chain_rises : Rising (λ i. (node (start_of g t) i).index) (dummy_of g ∷ queue_of g)
  chain_rises = (first, over (queue_of g) (λ i h. cached_index i h) queue_rises)
    where
      first : (y : ℕ) → among y (queue_of g) → (node (start_of g t) (dummy_of g)).index < (node (start_of g t) y).index
      first y h = let r = queue_in_lem g t y h in rw (cached_index y h, dummy_node.0) (above y r.1)

      over : (l : List ℕ) → ((i : ℕ) → among i l → (node (start_of g t) i).index ≡ (content_at g.nodes i).index)
          → Rising (λ i. (content_at g.nodes i).index) l → Rising (λ i. (node (start_of g t) i).index) l
      over [] e u = tt
      over (x ∷ l) e u = ((λ y h. rw (e x (inl refl), e y (inr h)) (u.0 y h)), over l (λ y h. e y (inr h)) u.1)

  -- ---- the links

  pub chain_in : (i : ℕ) → among i (dummy_of g ∷ queue_of g) → i < g.n
  chain_in i (inl e) = omega (arith, e, fit.dummy)
  chain_in i (inr h) = (queue_in_lem g t i h).0

  -- "the links run from it through the queue"
  pub links_run : (p : ℕ) → suc p < length (dummy_of g ∷ queue_of g)
      → (node (start_of g t) (get_or (dummy_of g ∷ queue_of g) p 0)).next ≡ get_or (dummy_of g ∷ queue_of g) (suc p) 0
  links_run p h =
      let i = get_or (dummy_of g ∷ queue_of g) p 0 in
      let b = chain_in i (among_get_or (dummy_of g ∷ queue_of g) p (omega arith)) in
      ap (λ (v : Node). v.next) (node_is g t i b) ∙ links.behind_at (λ i. (node (start_of g t) i).index) (dummy_of g ∷ queue_of g) chain_rises p h

  -- the last node's link is none
  pub link_last : (node (start_of g t) (start_of g t).tail).next ≡ none
  link_last =
      let p = length (queue_of g) in
      let i = get_or (dummy_of g ∷ queue_of g) p 0 in
      let b = chain_in i (among_get_or (dummy_of g ∷ queue_of g) p (omega arith)) in
      ap (λ (j : ℕ). (node (start_of g t) j).next) (tail_is g t)
      ∙ ap (λ (v : Node). v.next) (node_is g t i b)
      ∙ links.behind_last (λ i. (node (start_of g t) i).index) (dummy_of g ∷ queue_of g) chain_rises p refl

  -- "every link outside the queue is none"
  pub links_outside : (i : ℕ) → i < g.n → (among i (dummy_of g ∷ queue_of g) → ⊥) → (node (start_of g t) i).next ≡ none
  links_outside i h out = ap (λ (v : Node). v.next) (node_is g t i h) ∙ links.behind_outside (dummy_of g ∷ queue_of g) i out

-- A start of accepted contents is in range: 18 takes it. Assumes nothing.
use Prim.Native.Nat.{ℕ, ◌≤◌, ◌<◌, ◌^◌}
use mathlib.Core.Path.{◌≡◌, refl, ap, ◌∙◌}
use mathlib.Core.Bool.{Bool, true, false, not}
use mathlib.Core.List.{◌∷◌}
use mathlib.Core.Logic.{◌⊎◌, inl, inr}
use native.Mathlib.Omega.{arith}
use borrow.Author.Tests.{eq-eqb, lt-ltb, le-leb}
use lib.Dec.{eqb, ltb, leb}
use lib.Pow.{pow_mono}
use Rattle.lists.specs.Find.{pick, both, any}
use Rattle.lists.proofs.FindLaws.{any_none}
use Rattle.answer.specs.Answers.{accepted}
use Rattle.image.specs.declared.Content.{Content}
use Rattle.image.specs.declared.Image.{Image}
use Rattle.image.specs.Form.{known, top_of, head_lines}
use Rattle.image.specs.Layout.{content_at, image_shape, head_in}
use Rattle.image.specs.Recovered.{head_of, dummy_of}
use Rattle.image.proofs.HeadLaws.{heads_at_lem, head_within}
use Rattle.machine.specs.Record.{none, node, kept, thread, over_head, over_node}
use Rattle.machine.specs.Line.{Line, shape_of, over_at}
use Rattle.machine.specs.declared.Line.TheVariants.{OfHead as of_head, OfNode as of_node}
use Rattle.machine.specs.Range.{is_link, sizes_fit, ends_fit, free_fits, node_fits, thread_fits, ranges_fit, is_index, head_fits, index_fits, form_fits, is_set, flush_fits, flushes_fit, in_range}
use Rattle.machine.specs.Start.{queue_of, behind, start_with, start_of, start_answer, spare}
use Rattle.machine.specs.Rising.{among}
use Rattle.machine.specs.declared.Machine.{Machine}
use Rattle.machine.specs.declared.Node.{Node}
use Rattle.machine.proofs.AcceptedLaws.{Accepted, accepted_start}
use Rattle.machine.proofs.LinkLaws as links
use Rattle.machine.proofs.StartLaws as starts
use Rattle.machine.proofs.FlushLaws as flushes
use Rattle.lists.proofs.WordLaws.{word_of_lt}
use Rattle.lists.proofs.BoolLaws.{both_of}

all_of : (a b c d e : Bool) → a ≡ true → b ≡ true → c ≡ true → d ≡ true → e ≡ true → both a (both b (both c (both d e))) ≡ true
all_of a b c d e p q r s t = rw (p, q, r, s, t)

four : (a b c d : Bool) → a ≡ true → b ≡ true → c ≡ true → d ≡ true → both a (both b (both c d)) ≡ true
four a b c d p q r s = rw (p, q, r, s)

-- none, or a node
link_fits : (m : Machine) (x : ℕ) → (x ≡ none) ⊎ (x < m.n) → is_link m x ≡ true
link_fits m x (inl e) = rw (eq-eqb x none e)
link_fits m x (inr h) = rw (lt-ltb x m.n h) (same (eqb x none))
  where
    same : (b : Bool) → pick b true true ≡ true
    same true = refl
    same false = refl

positive : (t : ℕ) → 0 < 2 ^ t
positive t = pow_mono {i = 0} {j = t} (omega arith)

module _ (g : Image) (t : ℕ) (ok : accepted (start_answer g t) ≡ true) where
  fit : Accepted g t
  fit = accepted_start g t ok

  sizes : sizes_fit (start_of g t) ≡ true
  unfolding start_with
  sizes = rw (le-leb 2 g.n fit.nodes.0, le-leb g.n 64 fit.nodes.1, le-leb 1 t fit.threads.0, le-leb t 8 fit.threads.1)

  ends : ends_fit (start_of g t) ≡ true
  unfolding start_with
  ends =
      let last = starts.chain_in g t ok (start_of g t).tail (links.last_among (dummy_of g) (queue_of g)) in
      let dummy = lt-ltb (dummy_of g) g.n fit.dummy in
      both_of _ _ dummy (both_of _ _ (lt-ltb (start_of g t).tail g.n last) dummy)

  free : free_fits (start_of g t) ≡ true
  unfolding start_with
  free = lt-ltb (start_of g t).free (2 ^ g.n) (word_of_lt (spare g (dummy_of g)) g.n)

  link : (i : ℕ) → i < g.n → is_link (start_of g t) (node (start_of g t) i).next ≡ true
  link i h = link_fits (start_of g t) (node (start_of g t) i).next (by (links.behind_among (dummy_of g ∷ queue_of g) i))
    where
      e : (node (start_of g t) i).next ≡ behind (dummy_of g ∷ queue_of g) i
      e = ap (λ (v : Node). v.next) (starts.node_is g t i h)

      by : (behind (dummy_of g ∷ queue_of g) i ≡ none) ⊎ among (behind (dummy_of g ∷ queue_of g) i) (dummy_of g ∷ queue_of g)
          → ((node (start_of g t) i).next ≡ none) ⊎ ((node (start_of g t) i).next < (start_of g t).n)
      by (inl z) = inl (e ∙ z)
      by (inr z) = inr (omega (arith, e, starts.chain_in g t ok (behind (dummy_of g ∷ queue_of g) i) z, (starts.sizes_are g t).0))

  flag : (i : ℕ) → i < g.n → (node (start_of g t) i).linked ≤ 1
  flag i h = let e = ap (λ (v : Node). v.linked) (starts.node_is g t i h) in omega (arith, e, fit.clear i h)

  kept_flag : (i : ℕ) → i < g.n → (kept (start_of g t) i).linked ≤ 1
  kept_flag i h = let e = ap (λ (v : Content). v.linked) (starts.kept_is g t i h) in omega (arith, e, fit.clear i h)

  node_fits_lem : (i : ℕ) → i < g.n → node_fits (start_of g t) i ≡ true
  unfolding node_fits
  node_fits_lem i h =
      four
      (is_link (start_of g t) (node (start_of g t) i).next)
      (leb (node (start_of g t) i).linked 1)
      (leb (kept (start_of g t) i).linked 1)
      (ltb (node (start_of g t) i).waits (2 ^ (start_of g t).t))
      (link i h)
      (le-leb (node (start_of g t) i).linked 1 (flag i h))
      (le-leb (kept (start_of g t) i).linked 1 (kept_flag i h))
      (lt-ltb (node (start_of g t) i).waits (2 ^ (start_of g t).t) (omega (arith, starts.none_waits g t i h, positive (start_of g t).t)))

  thread_fits_lem : (k : ℕ) → k < 8 → thread_fits (start_of g t) k ≡ true
  unfolding thread_fits
  thread_fits_lem k h = rw (starts.thread_is g t k h)

  start_ranges : ranges_fit (start_of g t) ≡ true
  unfolding ranges_fit
  start_ranges =
      let nodes = any_none (λ i. not (node_fits (start_of g t) i)) (start_of g t).n (λ i h. ap not (node_fits_lem i (omega (arith, (starts.sizes_are g t).0)))) in
      let threads = any_none (λ k. not (thread_fits (start_of g t) k)) (start_of g t).t (λ k h. ap not (thread_fits_lem k (omega (arith, (starts.sizes_are g t).1, fit.threads.1)))) in
      all_of
      (sizes_fit (start_of g t))
      (ends_fit (start_of g t))
      (free_fits (start_of g t))
      (not (any (λ i. not (node_fits (start_of g t) i)) (start_of g t).n))
      (not (any (λ k. not (thread_fits (start_of g t) k)) (start_of g t).t))
      sizes
      ends
      free
      (ap not nodes)
      (ap not threads)

  -- ---- its form and its indices

  form_is : (start_of g t).form ≡ g.form
  form_is = starts.form_is g t

  index : (i : ℕ) → i < g.n → (node (start_of g t) i).index ≤ top_of g.form
  index i h = by (eqb i (dummy_of g)) (ap (λ (v : Node). v.index) (starts.node_is g t i h))
    where
      by : (b : Bool) → (node (start_of g t) i).index ≡ pick b (head_of g) (content_at g.nodes i).index → (node (start_of g t) i).index ≤ top_of g.form
      by true e = omega (arith, e, head_within g (top_of g.form) fit.fits.head)
      by false e = omega (arith, e, fit.fits.at i h)

  kept_index : (i : ℕ) → i < g.n → (kept (start_of g t) i).index ≤ top_of g.form
  kept_index i h = let e = ap (λ (v : Content). v.index) (starts.kept_is g t i h) in omega (arith, e, fit.fits.at i h)

  head_fits_lem : (k : ℕ) → k < head_lines (image_shape g) → head_fits (start_of g t) k ≡ true
  unfolding start_with head_fits
  head_fits_lem k h = rw (heads_at_lem (image_shape g) (head_in g) k h, le-leb (head_in g k) (top_of g.form) (fit.fits.head k h))

  index_fits_lem : (i : ℕ) → i < g.n → index_fits (start_of g t) i ≡ true
  unfolding index_fits
  index_fits_lem i h =
      rw (form_is, le-leb (node (start_of g t) i).index (top_of g.form) (index i h))
      (le-leb (kept (start_of g t) i).index (top_of g.form) (kept_index i h))

  thread_index : (k : ℕ) → k < 8 → is_index (start_of g t) (thread (start_of g t) k).index ≡ true
  thread_index k h = rw (starts.thread_is g t k h) (le-leb 0 (top_of (start_of g t).form) (omega arith))

  start_form : form_fits (start_of g t) ≡ true
  unfolding form_fits
  start_form =
      let n = (starts.sizes_are g t).0 in
      let heads = any_none (λ k. not (head_fits (start_of g t) k)) (head_lines (shape_of (start_of g t))) (λ k h. ap not (head_fits_lem k (omega (arith, starts.lines_are g t fit.shaped.agrees)))) in
      let nodes = any_none (λ i. not (index_fits (start_of g t) i)) (start_of g t).n (λ i h. ap not (index_fits_lem i (omega (arith, n)))) in
      let threads = any_none (λ k. not (is_index (start_of g t) (thread (start_of g t) k).index)) (start_of g t).t (λ k h. ap not (thread_index k (omega (arith, (starts.sizes_are g t).1, fit.threads.1)))) in
      four
      (known (start_of g t).form)
      (not (any (λ k. not (head_fits (start_of g t) k)) (head_lines (shape_of (start_of g t)))))
      (not (any (λ i. not (index_fits (start_of g t) i)) (start_of g t).n))
      (not (any (λ k. not (is_index (start_of g t) (thread (start_of g t) k).index)) (start_of g t).t))
      (rw form_is fit.form)
      (ap not heads)
      (ap not nodes)
      (ap not threads)

  -- ---- no thread has flushed

  flush_fits_lem : (k : ℕ) → flush_fits (start_of g t) k ≡ true
  unfolding flush_fits
  flush_fits_lem k =
      rw (flushes.start_flushed g t k, flushes.start_late g t k, le-leb 0 (top_of (start_of g t).form) (omega arith))
      (lt-ltb 0 (2 ^ (start_of g t).t) (positive (start_of g t).t))

  over_fits : (l : Line) → is_set (start_of g t) (over_at (start_of g t) l) ≡ true
  over_fits l = rw (flushes.start_over g t l) (lt-ltb 0 (2 ^ (start_of g t).t) (positive (start_of g t).t))

  start_flushes : flushes_fit (start_of g t) ≡ true
  unfolding flushes_fit
  start_flushes =
      both_of _ _
      (ap not (any_none (λ k. not (flush_fits (start_of g t) k)) (start_of g t).t (λ k h. ap not (flush_fits_lem k))))
      (both_of _ _
      (ap not (any_none (λ k. not (is_set (start_of g t) (over_head (start_of g t) k))) (head_lines (shape_of (start_of g t))) (λ k h. ap not (over_fits (of_head k)))))
      (ap not (any_none (λ i. not (is_set (start_of g t) (over_node (start_of g t) i))) (start_of g t).n (λ i h. ap not (over_fits (of_node i))))))

  pub start_in_range : in_range (start_of g t) ≡ true
  unfolding in_range
  start_in_range = rw (start_ranges, start_form) start_flushes

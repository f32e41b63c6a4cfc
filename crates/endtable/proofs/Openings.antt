-- One turn of each loop that fills the table, the counts or an image from the front.
use Prim.Native.Nat.{ℕ, ◌+◌, ◌-◌, ◌≤◌, ◌<◌}
use mathlib.Core.Path.{◌≡◌, refl, sym, ap, ◌∙◌}
use mathlib.Core.List.{List, []}
use lib.ListN.{length, get_or, set, get_or-eq_default}
use native.Mathlib.Omega.{arith}
use Rattle.lists.specs.Tab.{front}
use Rattle.lists.proofs.TabLaws as tabs
use Rattle.image.specs.Layout.{no_content, no_contents, content_at, no_heads}
use Rattle.image.specs.Form.{head_lines}
use Rattle.image.specs.declared.Shape.{Shape}
use Rattle.image.specs.declared.Content.{Content}
use Rattle.machine.specs.Record.{zero_node, node, kept, head_at, kept_head, content_of}
use Rattle.machine.specs.Line.{shape_of, head_content, line_at, cached_at, persisted_at}
use Rattle.machine.specs.declared.Machine.{Machine}
use Rattle.machine.specs.declared.Node.{Node}
use Rattle.image.proofs.HeadLaws.{length_no_heads}
use Rattle.machine.proofs.LineLaws.{line_head, line_node, line_behind}
use Rattle.endtable.specs.Opened.{blank_table, blank_counts, opened_row, opened_count, line_opened, line_counted, opened_table, opened_counts}
use Rattle.endtable.specs.Picks.{picked_at, picked_head, picked_node}

pub length_blank_table : length blank_table ≡ 72
unfolding blank_table
length_blank_table = refl

pub length_blank_counts : length blank_counts ≡ 72
unfolding blank_counts
length_blank_counts = refl

pub length_no_contents : length no_contents ≡ 64
unfolding no_contents
length_no_contents = refl

module _ (m : Machine) where
  abbrev z : Shape
  z = shape_of m

  -- a head line, then a node's
  pub table_head : (k : ℕ) → k < head_lines (shape_of m) → head_lines (shape_of m) ≤ 8
      → set (opened_table m k) k (opened_row (head_content (kept_head m k)) (head_content (head_at m k))) ≡ opened_table m (k + 1)
  unfolding opened_table
  table_head k h f =
      let e : opened_row (head_content (kept_head m k)) (head_content (head_at m k)) ≡ line_opened m k = rw (line_head z k h) in
      ap (set (front (line_opened m) k blank_table) k) e ∙ tabs.front_next (line_opened m) k blank_table (omega (arith, length_blank_table))

  pub table_next : (lines i : ℕ) → lines ≡ head_lines (shape_of m) → i < 64 → head_lines (shape_of m) ≤ 8
      → set (opened_table m (lines + i)) (lines + i) (opened_row (kept m i) (content_of (node m i))) ≡ opened_table m (lines + (i + 1))
  unfolding opened_table
  table_next lines i q h f =
      let e : opened_row (kept m i) (content_of (node m i)) ≡ line_opened m (lines + i) = rw (q, line_node z i) in
      ap (set (front (line_opened m) (lines + i) blank_table) (lines + i)) e
      ∙ tabs.front_next (line_opened m) (lines + i) blank_table (omega (arith, length_blank_table))
      ∙ ap (λ k. front (line_opened m) k blank_table) (omega arith)

  pub table_none : blank_table ≡ opened_table m 0
  unfolding opened_table
  table_none = tabs.front_none (line_opened m) blank_table

  pub counts_head : (k : ℕ) → k < head_lines (shape_of m) → head_lines (shape_of m) ≤ 8
      → set (opened_counts m k) k (opened_count (head_content (kept_head m k)) (head_content (head_at m k))) ≡ opened_counts m (k + 1)
  unfolding opened_counts
  counts_head k h f =
      let e : opened_count (head_content (kept_head m k)) (head_content (head_at m k)) ≡ line_counted m k = rw (line_head z k h) in
      ap (set (front (line_counted m) k blank_counts) k) e ∙ tabs.front_next (line_counted m) k blank_counts (omega (arith, length_blank_counts))

  pub counts_next : (lines i : ℕ) → lines ≡ head_lines (shape_of m) → i < 64 → head_lines (shape_of m) ≤ 8
      → set (opened_counts m (lines + i)) (lines + i) (opened_count (kept m i) (content_of (node m i))) ≡ opened_counts m (lines + (i + 1))
  unfolding opened_counts
  counts_next lines i q h f =
      let e : opened_count (kept m i) (content_of (node m i)) ≡ line_counted m (lines + i) = rw (q, line_node z i) in
      ap (set (front (line_counted m) (lines + i) blank_counts) (lines + i)) e
      ∙ tabs.front_next (line_counted m) (lines + i) blank_counts (omega (arith, length_blank_counts))
      ∙ ap (λ k. front (line_counted m) k blank_counts) (omega arith)

  pub counts_none : blank_counts ≡ opened_counts m 0
  unfolding opened_counts
  counts_none = tabs.front_none (line_counted m) blank_counts

-- one node more of the picked image, one head line more
pub picked_next : (t : List (List Content)) (ps : List ℕ) (z : Shape) (lines i : ℕ) → lines ≡ head_lines z → i < 64
    → set (front (picked_node t ps z) i no_contents) i (content_at (get_or t (lines + i) []) (get_or ps (lines + i) 0)) ≡ front (picked_node t ps z) (i + 1) no_contents
unfolding picked_at
picked_next t ps z lines i q h =
    ap (set (front (picked_node t ps z) i no_contents) i) (ap (λ l. content_at (get_or t (l + i) []) (get_or ps (l + i) 0)) q)
    ∙ tabs.front_next (picked_node t ps z) i no_contents (omega (arith, length_no_contents))

pub picked_head_lem : (t : List (List Content)) (ps : List ℕ) (k : ℕ) → k < 8
    → set (front (picked_head t ps) k no_heads) k (content_at (get_or t k []) (get_or ps k 0)).index ≡ front (picked_head t ps) (k + 1) no_heads
unfolding picked_at
picked_head_lem t ps k h = tabs.front_next (picked_head t ps) k no_heads (omega (arith, length_no_heads))

-- a line by its number
pub cached_head : (m : Machine) (l : ℕ) → l < head_lines (shape_of m) → head_content (head_at m l) ≡ cached_at m (line_at (shape_of m) l)
cached_head m l h = rw (line_head (shape_of m) l h)

pub cached_node : (m : Machine) (l : ℕ) → head_lines (shape_of m) ≤ l → content_of (node m (l - head_lines (shape_of m))) ≡ cached_at m (line_at (shape_of m) l)
cached_node m l h = rw (line_behind (shape_of m) l h)

pub persisted_head : (m : Machine) (l : ℕ) → l < head_lines (shape_of m) → head_content (kept_head m l) ≡ persisted_at m (line_at (shape_of m) l)
persisted_head m l h = rw (line_head (shape_of m) l h)

pub persisted_node : (m : Machine) (l : ℕ) → head_lines (shape_of m) ≤ l → kept m (l - head_lines (shape_of m)) ≡ persisted_at m (line_at (shape_of m) l)
persisted_node m l h = rw (line_behind (shape_of m) l h)

-- beyond the nodes the line is blank
pub held_none : (l : List Node) (i : ℕ) → length l ≤ i → head_content 0 ≡ content_of (get_or l i zero_node)
held_none l i h = sym (ap content_of (get_or-eq_default l zero_node {n = i} h))

pub kept_none : (l : List Content) (i : ℕ) → length l ≤ i → head_content 0 ≡ get_or l i no_content
kept_none l i h = sym (get_or-eq_default l no_content {n = i} h)

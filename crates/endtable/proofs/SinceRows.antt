-- #104: which line a thread is at its fence of, and the rows since the flushes as the code fills them.
use Prim.Native.Nat.{ℕ, ◌+◌, ◌-◌, ◌≤◌, ◌<◌}
use mathlib.Core.Path.{◌≡◌, refl, sym, ap, ◌∙◌}
use mathlib.Core.Bool.{Bool, false}
use mathlib.Core.List.{List}
use native.Mathlib.Omega.{arith}
use lib.ListN.{length, get_or, set, drop}
use Rattle.std.proofs.lemmas.List.{get_or-append_right, get_or-drop}
use lib.Seq.{set-get_or}
use borrow.Author.Tests.{eq-eqb, ne_eqb, le-leb, lt-leb}
use Rattle.lists.specs.Find.{pick}
use Rattle.lists.specs.Tab.{tab, front}
use Rattle.lists.proofs.TabLaws as tabs
use Rattle.image.specs.declared.Content.{Content}
use Rattle.image.specs.declared.Shape.{Shape}
use Rattle.image.specs.Form.{head_lines, per_desk}
use Rattle.machine.specs.Record.{zero_thread}
use Rattle.machine.specs.Line.{number_of}
use Rattle.machine.specs.declared.Line.TheVariants.{OfHead as of_head, OfNode as of_node}
use Rattle.machine.specs.declared.Thread.{Thread}
use Rattle.moments.specs.Marked.{fence_line}
use Rattle.endtable.specs.Rows.{no_row, joined_row}
use Rattle.endtable.specs.Since.{no_since, fence_row, stored_row, since_joined}
use Rattle.endtable.specs.declared.row.Row.{Row}

-- ---- the line that a thread is at its fence of

module _ (z : Shape) (k : ℕ) (v : Thread) where
  pub fence_none : v.step < 22 → 72 ≡ fence_row z k v
  unfolding fence_row
  fence_none h = rw (lt-leb 22 v.step h)

  pub fence_at : 22 ≤ v.step → fence_row z k v ≡ number_of z (fence_line z.form k v)
  unfolding fence_row
  fence_at h = rw (le-leb 22 v.step h)

  pub fence_node : (x : ℕ) → x ≡ head_lines z → v.step ≡ 22 → x + v.node ≡ fence_row z k v
  fence_node x e h =
      ap (λ (y : ℕ). y + v.node) e
      ∙ sym (fence_at (omega (arith, h)) ∙ ap (λ (b : Bool). number_of z (pick b (of_node v.node) (of_head (pick (per_desk z.form) k 0)))) (eq-eqb v.step 22 h))

  head_at : 22 ≤ v.step → (v.step ≡ 22 → ⊥) → fence_row z k v ≡ pick (per_desk z.form) k 0
  head_at h n = fence_at h ∙ ap (λ (b : Bool). number_of z (pick b (of_node v.node) (of_head (pick (per_desk z.form) k 0)))) (ne_eqb v.step 22 n)

  pub fence_desk : 22 ≤ v.step → (v.step ≡ 22 → ⊥) → z.form ≡ 4 → k ≡ fence_row z k v
  unfolding per_desk
  fence_desk h n f = sym (head_at h n ∙ ap (λ (b : Bool). pick b k 0) (eq-eqb z.form 4 f))

  pub fence_head : 22 ≤ v.step → (v.step ≡ 22 → ⊥) → (z.form ≡ 4 → ⊥) → 0 ≡ fence_row z k v
  unfolding per_desk
  fence_head h n f = sym (head_at h n ∙ ap (λ (b : Bool). pick b k 0) (ne_eqb z.form 4 f))

-- ---- the rows

pub length_no_since : length no_since ≡ 8
unfolding no_since
length_no_since = refl

-- what the first n of a list are filled with leaves the others
front_rest : (f : ℕ → Row) (n i : ℕ) (l : List Row) → n ≤ i → get_or (front f n l) i no_row ≡ get_or l i no_row
unfolding front
front_rest f n i l h =
    let e : n + (i - n) ≡ i = omega arith in
    get_or-append_right (tab f n) (drop n l) n i no_row (tabs.length_tab f n) h ∙ get_or-drop n l (i - n) no_row ∙ ap (λ j. get_or l j no_row) e

module _ (z : Shape) (ts : List Thread) (since : List Row) (l : ℕ) (c : Content) where
  pub joined_none : since ≡ since_joined z ts since l c 0
  unfolding since_joined
  joined_none = tabs.front_none (stored_row z ts since l c) since

  -- thread k is at its fence of the line, or is not
  pub joined_next : (k : ℕ) → length since ≡ 8 → k < 8 → (r : Row) → r ≡ stored_row z ts since l c k
      → set (since_joined z ts since l c k) k r ≡ since_joined z ts since l c (k + 1)
  unfolding since_joined
  joined_next k e h r q =
      ap (set (front (stored_row z ts since l c) k since) k) q ∙ tabs.front_next (stored_row z ts since l c) k since (omega (arith, e))

  pub waits_row : (k x : ℕ) → x ≡ fence_row z k (get_or ts k zero_thread) → x ≡ l → (r : Row) → r ≡ joined_row (get_or since k no_row) c false → r ≡ stored_row z ts since l c k
  waits_row k x e q r d = d ∙ sym (ap (λ (b : Bool). pick b (joined_row (get_or since k no_row) c false) (get_or since k no_row)) (eq-eqb _ l (sym e ∙ q)))

  pub other_row : (k x : ℕ) → x ≡ fence_row z k (get_or ts k zero_thread) → (x ≡ l → ⊥) → get_or since k no_row ≡ stored_row z ts since l c k
  other_row k x e q = sym (ap (λ (b : Bool). pick b (joined_row (get_or since k no_row) c false) (get_or since k no_row)) (ne_eqb _ l (λ w. q (e ∙ w))))

  -- the row of thread k is changed at k only
  joined_rest : (k : ℕ) → k < length since → get_or (since_joined z ts since l c k) k no_row ≡ get_or since k no_row
  unfolding since_joined
  joined_rest k h = front_rest (stored_row z ts since l c) k k since (omega arith)

  -- thread k waits at line l, or does not
  pub joined_wait : (k x : ℕ) → length since ≡ 8 → k < 8 → x ≡ fence_row z k (get_or ts k zero_thread) → x ≡ l
      → (r : Row) → r ≡ joined_row (get_or (since_joined z ts since l c k) k no_row) c false → set (since_joined z ts since l c k) k r ≡ since_joined z ts since l c (k + 1)
  joined_wait k x e h q w r d =
      joined_next k e h r (waits_row k x q w r (d ∙ ap (λ (y : Row). joined_row y c false) (joined_rest k (omega (arith, e)))))

  pub joined_pass : (k x : ℕ) → length since ≡ 8 → k < 8 → x ≡ fence_row z k (get_or ts k zero_thread) → (x ≡ l → ⊥)
      → since_joined z ts since l c k ≡ since_joined z ts since l c (k + 1)
  joined_pass k x e h q w =
      sym (set-get_or (since_joined z ts since l c k) k no_row)
      ∙ joined_next k e h _ (joined_rest k (omega (arith, e)) ∙ other_row k x q w)

  pub joined_at : (k : ℕ) → k < 8 → get_or (since_joined z ts since l c 8) k no_row ≡ stored_row z ts since l c k
  unfolding since_joined
  joined_at k h = tabs.front_at (stored_row z ts since l c) 8 since k no_row h

  pub joined_length : length since ≡ 8 → length (since_joined z ts since l c 8) ≡ 8
  unfolding since_joined
  joined_length e = tabs.front_size (stored_row z ts since l c) 8 since (omega (arith, e)) ∙ e

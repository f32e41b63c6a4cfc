-- 2,267 bytes with a record's mark and version, read as a record and written again are the bytes. Assumes nothing.
use Prim.Native.Nat.{ℕ, ◌+◌, ◌*◌, ◌≤◌, ◌<◌}
use mathlib.Core.Path.{◌≡◌, sym, ap, ap₂, ◌∙◌}
use mathlib.Core.Bool.{true}
use mathlib.Core.List.{List, [], ◌∷◌, ◌++◌}
use native.Mathlib.Omega.{arith}
use native.Mathlib.Nat.{add_assoc, add-zero}
use lib.ListN.{length, get_or, take, drop}
use lib.Dec.{eqb}
use borrow.Author.Tests.{eqb-true}
use Rattle.lists.proofs.BoolLaws.{both_true}
use lib.Seq.{take_all, take-add, drop-drop}
use Rattle.lists.specs.Tab.{tab, front, joined}
use Rattle.lists.proofs.TabLaws as tabs
use Rattle.image.specs.Bytes.{le4, at1, at4}
use Rattle.image.proofs.ByteLaws as num
use Rattle.image.specs.Layout.{marked, no_content, no_contents, no_heads}
use Rattle.machine.specs.Record.{zero_node, zero_thread, blank_nodes, idle_threads, no_flushed, no_sets}
use Rattle.record.specs.Layout.{record_size, is_record, le8, at8, head_bytes, node_bytes, thread_bytes, long_part, node_part, thread_part, core_bytes, flush_bytes, flush_part, set_bytes, flushes_bytes, record_bytes, long_in, node_in, kept_in, thread_in, flush_in, set_in, record_in}

module _ (s : List ℕ) (bytes : num.Bytes s) (size : length s ≡ record_size) (mark : is_record s ≡ true) where
  -- what stands from place p on
  abbrev from : ℕ → ℕ → ℕ
  from p j = get_or s (p + j) 0

  word_there : (i : ℕ) → i + 4 ≤ record_size → le4 (at4 s i) ≡ get_or s i 0 ∷ get_or s (i + 1) 0 ∷ get_or s (i + 2) 0 ∷ get_or s (i + 3) 0 ∷ []
  word_there i h = num.le_at 4 s i bytes (omega arith) ∙ num.four_at s i (omega arith)

  word_more : (p j : ℕ) → p + j + 4 ≤ record_size → le4 (at4 s (p + j)) ≡ from p j ∷ from p (j + 1) ∷ from p (j + 2) ∷ from p (j + 3) ∷ []
  word_more p j h = word_there (p + j) h ∙ rw (add_assoc p j 1, add_assoc p j 2, add_assoc p j 3)

  byte_first : (p : ℕ) → get_or s p 0 ≡ from p 0
  byte_first p = ap (λ (k : ℕ). get_or s k 0) (sym (add-zero p))

  word_first : (p : ℕ) → p + 4 ≤ record_size → le4 (at4 s p) ≡ from p 0 ∷ from p 1 ∷ from p 2 ∷ from p 3 ∷ []
  word_first p h = ap (λ (k : ℕ). le4 (at4 s k)) (sym (add-zero p)) ∙ word_more p 0 (omega arith)

  long_more : (p j : ℕ) → p + j + 8 ≤ record_size → le8 (at8 s (p + j)) ≡ tab (λ k. from p (j + k)) 8
  long_more p j h =
      num.le_at 8 s (p + j) bytes (omega arith)
      ∙ tabs.take_drop_tab s 0 (p + j) 8 (omega arith)
      ∙ tabs.tab_same (λ k. get_or s (p + j + k) 0) (λ k. from p (j + k)) 8 (λ k l. ap (λ (i : ℕ). get_or s i 0) (add_assoc p j k))

  -- the mark and the version are these bytes
  marks : (at1 s 0 ≡ 85) × (at1 s 1 ≡ 81) × (at1 s 2 ≡ 77) × (at1 s 3 ≡ 4) × (at1 s 4 ≡ 0)
  unfolding marked
  marks =
      let a = both_true (eqb (at1 s 0) 85) _ mark in
      let b = both_true (eqb (at1 s 1) 81) _ a.1 in
      let c = both_true (eqb (at1 s 2) 77) _ b.1 in
      let d = both_true (eqb (at1 s 3) 4) _ c.1 in
      (eqb-true _ _ a.0, eqb-true _ _ b.0, eqb-true _ _ c.0, eqb-true _ _ d.0, eqb-true _ _ d.1)

  head_there : head_bytes (record_in s) ≡ tab (λ j. get_or s (0 + j) 0) 18
  unfolding record_in tab
  head_there =
      let free = long_more 0 10 (omega arith) in
      let m = marks in
      λ t. sym m.0 t ∷ sym m.1 t ∷ sym m.2 t ∷ sym m.3 t ∷ sym m.4 t ∷ at1 s 5 ∷ at1 s 6 ∷ at1 s 7 ∷ at1 s 8 ∷ at1 s 9 ∷ free t

  -- index i of those from place p on
  long_there : (p i : ℕ) → i < 8 → p + i * 8 + 8 ≤ record_size → long_part (front (long_in s p) 8 no_heads) i ≡ tab (λ j. get_or s (p + i * 8 + j) 0) 8
  unfolding long_part long_in tab
  long_there p i h l =
      ap le8 (tabs.front_at (long_in s p) 8 no_heads i 0 h ∙ ap (at8 s) (sym (add-zero (p + i * 8))))
      ∙ long_more (p + i * 8) 0 (omega arith)

  node_there : (i : ℕ) → i < 64 → node_part (record_in s) i ≡ tab (λ j. get_or s (146 + i * 28 + j) 0) 28
  unfolding record_in node_part node_in kept_in tab
  node_there i h =
      let at = 146 + i * 28 in
      ap₂ node_bytes (tabs.front_at (node_in s) 64 blank_nodes i zero_node h) (tabs.front_at (kept_in s) 64 no_contents i no_content h)
      ∙ (let a = word_first at (omega arith) in
      let b = long_more at 6 (omega arith) in
      let c = long_more at 16 (omega arith) in
      let d = word_more at 24 (omega arith) in
      λ t. a t ++ (from at 4 ∷ from at 5 ∷ (b t ++ (from at 14 ∷ from at 15 ∷ (c t ++ d t)))))

  thread_there : (i : ℕ) → i < 8 → thread_part (record_in s) i ≡ tab (λ j. get_or s (1938 + i * 18 + j) 0) 18
  unfolding record_in thread_part thread_in tab
  thread_there i h =
      let at = 1938 + i * 18 in
      ap thread_bytes (tabs.front_at (thread_in s) 8 idle_threads i zero_thread h)
      ∙ (let a = long_more at 4 (omega arith) in
      let b = word_more at 13 (omega arith) in
      λ t. byte_first at t ∷ from at 1 ∷ from at 2 ∷ from at 3 ∷ (a t ++ (from at 12 ∷ (b t ++ (from at 17 ∷ [])))))

  -- n parts of c bytes each, from place p on
  row : (f : ℕ → List ℕ) (p c n : ℕ) → p + n * c ≤ length s → ((i : ℕ) → i < n → p + i * c + c ≤ length s)
      → ((i : ℕ) → i < n → f i ≡ tab (λ j. get_or s (p + i * c + j) 0) c) → joined f n ≡ take (n * c) (drop p s)
  row f p c n h l e =
      tabs.joined_same f (λ i. take c (drop (i * c) (drop p s))) n
      (λ i q. e i q ∙ sym (tabs.take_drop_tab s 0 (p + i * c) c (l i q)) ∙ ap (take c) (sym (drop-drop (i * c) p s)))
      ∙ tabs.joined_parts (drop p s) c n

  abbrev join : List ℕ → List ℕ → List ℕ
  join x y = x ++ y

  -- two parts in a row, from place p on
  parts : (a b p : ℕ) → take a (drop p s) ++ take b (drop (p + a) s) ≡ take (a + b) (drop p s)
  parts a b p = sym (take-add a b (drop p s) ∙ ap (λ (l : List ℕ). take a (drop p s) ++ take b l) (drop-drop a p s))

  core_there : core_bytes (record_in s) ≡ take 2083 s
  unfolding core_bytes record_in tab
  core_there =
      let a : head_bytes (record_in s) ≡ take 18 s = head_there ∙ sym (tabs.take_drop_tab s 0 0 18 (omega arith)) in
      let x = row (long_part (record_in s).heads) 18 8 8 (omega arith) (λ i q. omega arith) (λ i q. long_there 18 i q (omega arith)) in
      let y = row (long_part (record_in s).kept_heads) 82 8 8 (omega arith) (λ i q. omega arith) (λ i q. long_there 82 i q (omega arith)) in
      let b = row (node_part (record_in s)) 146 28 64 (omega arith) (λ i q. omega arith) node_there in
      let c = row (thread_part (record_in s)) 1938 18 8 (omega arith) (λ i q. omega arith) thread_there in
      let l : (record_in s).last ∷ [] ≡ take 1 (drop 2082 s) = sym (tabs.take_drop_tab s 0 2082 1 (omega arith)) in
      let d : take 144 (drop 1938 s) ++ take 1 (drop 2082 s) ≡ take 145 (drop 1938 s) = parts 144 1 1938 in
      let e : take 1792 (drop 146 s) ++ take 145 (drop 1938 s) ≡ take 1937 (drop 146 s) = parts 1792 145 146 in
      let f : take 64 (drop 82 s) ++ take 1937 (drop 146 s) ≡ take 2001 (drop 82 s) = parts 64 1937 82 in
      let g : take 64 (drop 18 s) ++ take 2001 (drop 82 s) ≡ take 2065 (drop 18 s) = parts 64 2001 18 in
      ap₂ join a (ap₂ join x (ap₂ join y (ap₂ join b (ap₂ join c l ∙ d) ∙ e) ∙ f) ∙ g)
      ∙ sym (take-add 18 2065 s)

  -- what is known of flushes
  flush_there : (i : ℕ) → i < 8 → flush_part (record_in s).flushed i ≡ tab (λ j. get_or s (2083 + i * 13 + j) 0) 13
  unfolding record_in flush_part flush_in tab
  flush_there i h =
      let at = 2083 + i * 13 in
      ap flush_bytes (tabs.front_at (flush_in s) 8 no_flushed i no_content h)
      ∙ (let a = long_more at 1 (omega arith) in
      let b = word_more at 9 (omega arith) in
      λ t. byte_first at t ∷ (a t ++ b t))

  sets_there : (p n : ℕ) → p + n ≤ length s → set_bytes (front (set_in s p) n (no_sets n)) n ≡ take n (drop p s)
  unfolding set_bytes set_in
  sets_there p n h =
      tabs.tab_same (λ i. get_or (front (set_in s p) n (no_sets n)) i 0) (λ i. get_or s (p + i) 0) n (λ i l. tabs.front_at (set_in s p) n (no_sets n) i 0 l)
      ∙ sym (tabs.take_drop_tab s 0 p n h)

  flushes_there : flushes_bytes (record_in s) ≡ take 184 (drop 2083 s)
  unfolding flushes_bytes record_in
  flushes_there =
      let a = row (flush_part (record_in s).flushed) 2083 13 8 (omega arith) (λ i q. omega arith) flush_there in
      let b = sets_there 2187 8 (omega arith) in
      let c = sets_there 2195 8 (omega arith) in
      let d = sets_there 2203 64 (omega arith) in
      ap₂ join a (ap₂ join b (ap₂ join c d ∙ parts 8 64 2195) ∙ parts 8 72 2187) ∙ parts 104 80 2083

  pub there_and_back : record_bytes (record_in s) ≡ s
  unfolding record_bytes
  there_and_back = ap₂ join core_there flushes_there ∙ sym (take-add 2083 184 s) ∙ take_all record_size s (omega arith)

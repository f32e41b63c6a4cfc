-- A record written as bytes and read again is the record. Assumes nothing.
use Prim.Native.Nat.{ℕ, ◌+◌, ◌*◌, ◌^◌, ◌≤◌, ◌<◌}
use mathlib.Core.Path.{◌≡◌, refl, sym, ap, ◌∙◌}
use mathlib.Core.Bool.{true}
use mathlib.Core.List.{List, [], ◌∷◌, ◌++◌}
use native.Mathlib.Omega.{arith}
use native.Mathlib.Nat.{add_assoc, add-zero}
use borrow.Author.Tests.{eq-eqb}
use lib.ListN.{length, get_or, length-append, length-replicate, get_or-append}
use lib.Seq.{ext_get_or, get_or-append-add}
use Rattle.lists.specs.Tab.{joined, front}
use Rattle.lists.proofs.TabLaws as tabs
use Rattle.answer.specs.Answers.{Taken}
use Rattle.image.specs.Bytes.{at_w, at1, at4}
use Rattle.image.proofs.ByteLaws as num
use Rattle.image.specs.Layout.{marked, no_content, no_contents, no_heads}
use Rattle.machine.specs.Record.{node, kept, head_at, kept_head, thread, flushed, zero_node, zero_thread, blank_nodes, idle_threads, no_flushed, no_sets}
use Rattle.machine.specs.Retire.{out}
use Rattle.machine.specs.declared.Machine.{Machine}
use Rattle.record.specs.Layout.{record_size, is_record, at8, head_bytes, long_part, node_part, thread_part, core_bytes, flush_part, set_bytes, flushes_bytes, record_bytes, long_in, node_in, kept_in, thread_in, flush_in, set_in, record_in, read_answer, read_record}
use Rattle.record.proofs.Laws as laws

-- the tables are whole, and the numbers of 32 and 64 bits fit
pub record Whole (m : Machine) : Type 0 where
  pub index : (k : ℕ) → head_at m k < 2 ^ 64
  pub free : m.free < 2 ^ 64
  pub head : (k : ℕ) → kept_head m k < 2 ^ 64
  pub heads : length m.heads ≡ 8
  pub kept_heads_lem : length m.kept_heads ≡ 8
  pub nodes : length m.nodes ≡ 64
  pub copies : length m.kept ≡ 64
  pub threads : length m.threads ≡ 8
  pub node_item : (i : ℕ) → (node m i).item < 2 ^ 32
  pub node_index : (i : ℕ) → (node m i).index < 2 ^ 64
  pub kept_item : (i : ℕ) → (kept m i).item < 2 ^ 32
  pub kept_index : (i : ℕ) → (kept m i).index < 2 ^ 64
  pub thread_item : (k : ℕ) → (thread m k).item < 2 ^ 32
  pub thread_index : (k : ℕ) → (thread m k).index < 2 ^ 64
  pub flushes : length m.flushed ≡ 8
  pub late_sets : length m.late ≡ 8
  pub over_heads_lem : length m.over_heads ≡ 8
  pub over_nodes : length m.over ≡ 64
  pub flushed_item : (k : ℕ) → (flushed m k).item < 2 ^ 32
  pub flushed_index : (k : ℕ) → (flushed m k).index < 2 ^ 64

-- ---- a part of the bytes: s has at place p the c bytes of q

module _ (s q : List ℕ) (p c : ℕ) (same : (j : ℕ) → j < c → get_or s (p + j) 0 ≡ get_or q j 0) (long : p + c ≤ length s) (whole : length q ≡ c) where
  at_first : 0 < c → at1 s p ≡ at1 q 0
  at_first h = ap (at1 s) (sym (add-zero p)) ∙ same 0 h

  word_at : (j : ℕ) → j + 4 ≤ c → at4 s (p + j) ≡ at4 q j
  word_at j h = num.at_same 4 s q p j c same h (omega arith) (omega arith)

  long_at : (j : ℕ) → j + 8 ≤ c → at8 s (p + j) ≡ at8 q j
  long_at j h = num.at_same 8 s q p j c same h (omega arith) (omega arith)

  word_first : 4 ≤ c → at4 s p ≡ at4 q 0
  word_first h = ap (at4 s) (sym (add-zero p)) ∙ word_at 0 h

-- ---- a table filled whole

filled : {A : Type 0} (d : A) (f : ℕ → A) (n : ℕ) (l x : List A) → length l ≡ n → length x ≡ n → ((i : ℕ) → i < n → f i ≡ get_or x i d) → front f n l ≡ x
filled d f n l x e g h =
    let w : length (front f n l) ≡ n = tabs.front_size f n l (omega arith) ∙ e in
    ext_get_or d (front f n l) x (w ∙ sym g) (λ i p. tabs.front_at f n l i d (omega (arith, w)) ∙ h i (omega (arith, w)))

module _ (m : Machine) where
  nodes_of : List ℕ
  nodes_of = joined (node_part m) 64

  threads_of : List ℕ
  threads_of = joined (thread_part m) 8

  nodes_length : length nodes_of ≡ 1792
  unfolding nodes_of
  nodes_length = tabs.length_joined (node_part m) 28 64 (laws.node_length m)

  threads_length : length threads_of ≡ 144
  unfolding threads_of
  threads_length = tabs.length_joined (thread_part m) 18 8 (laws.thread_length m)

  heads_of : List ℕ
  heads_of = joined (long_part m.heads) 8

  kepts_of : List ℕ
  kepts_of = joined (long_part m.kept_heads) 8

  heads_length : length heads_of ≡ 64
  unfolding heads_of
  heads_length = tabs.length_joined (long_part m.heads) 8 8 (laws.long_length m.heads)

  kepts_length : length kepts_of ≡ 64
  unfolding kepts_of
  kepts_length = tabs.length_joined (long_part m.kept_heads) 8 8 (laws.long_length m.kept_heads)

  -- what stands behind the nodes, and with them; behind the indices of the head lines
  abbrev rest : List ℕ
  rest = joined (thread_part m) 8 ++ (m.last ∷ [])

  abbrev behind : List ℕ
  behind = joined (node_part m) 64 ++ rest

  abbrev copies : List ℕ
  copies = joined (long_part m.kept_heads) 8 ++ behind

  abbrev heads : List ℕ
  heads = joined (long_part m.heads) 8

  abbrev kepts : List ℕ
  kepts = joined (long_part m.kept_heads) 8

  head_byte : (i j : ℕ) → i < 8 → j < 8 → get_or (core_bytes m) (18 + i * 8 + j) 0 ≡ get_or (long_part m.heads i) j 0
  unfolding core_bytes heads_of
  head_byte i j p q =
      ap (λ (k : ℕ). get_or (core_bytes m) k 0) (add_assoc 18 (i * 8) j)
      ∙ get_or-append-add (head_bytes m) (heads ++ copies) (i * 8 + j) 0
      ∙ get_or-append heads copies 0 (i * 8 + j) (omega (arith, heads_length))
      ∙ tabs.get_or_joined (long_part m.heads) 8 8 i j 0 (laws.long_length m.heads) p q

  -- place j behind the head lines' indices
  past_heads : (p j : ℕ) → p ≡ 82 + j → get_or (core_bytes m) p 0 ≡ get_or copies j 0
  unfolding core_bytes heads_of
  past_heads p j h =
      let e : p ≡ 18 + (length heads + j) = omega (arith, heads_length) in
      ap (λ (k : ℕ). get_or (core_bytes m) k 0) e
      ∙ get_or-append-add (head_bytes m) (heads ++ copies) (length heads + j) 0
      ∙ get_or-append-add heads copies j 0

  kept_byte : (i j : ℕ) → i < 8 → j < 8 → get_or (core_bytes m) (82 + i * 8 + j) 0 ≡ get_or (long_part m.kept_heads i) j 0
  unfolding kepts_of
  kept_byte i j p q =
      past_heads (82 + i * 8 + j) (i * 8 + j) (add_assoc 82 (i * 8) j)
      ∙ get_or-append kepts behind 0 (i * 8 + j) (omega (arith, kepts_length))
      ∙ tabs.get_or_joined (long_part m.kept_heads) 8 8 i j 0 (laws.long_length m.kept_heads) p q

  -- and behind their persisted copies
  past_kepts : (p j : ℕ) → p ≡ 146 + j → get_or (core_bytes m) p 0 ≡ get_or behind j 0
  unfolding kepts_of
  past_kepts p j h = past_heads p (length kepts + j) (omega (arith, kepts_length)) ∙ get_or-append-add kepts behind j 0

  node_byte : (i j : ℕ) → i < 64 → j < 28 → get_or (core_bytes m) (146 + i * 28 + j) 0 ≡ get_or (node_part m i) j 0
  unfolding nodes_of
  node_byte i j p q =
      past_kepts (146 + i * 28 + j) (i * 28 + j) (add_assoc 146 (i * 28) j)
      ∙ get_or-append (joined (node_part m) 64) rest 0 (i * 28 + j) (omega (arith, nodes_length))
      ∙ tabs.get_or_joined (node_part m) 28 64 i j 0 (laws.node_length m) p q

  thread_byte : (i j : ℕ) → i < 8 → j < 18 → get_or (core_bytes m) (1938 + i * 18 + j) 0 ≡ get_or (thread_part m i) j 0
  unfolding nodes_of threads_of
  thread_byte i j p q =
      past_kepts (1938 + i * 18 + j) (length (joined (node_part m) 64) + (i * 18 + j)) (omega (arith, nodes_length))
      ∙ get_or-append-add (joined (node_part m) 64) rest (i * 18 + j) 0
      ∙ get_or-append (joined (thread_part m) 8) (m.last ∷ []) 0 (i * 18 + j) (omega (arith, threads_length))
      ∙ tabs.get_or_joined (thread_part m) 18 8 i j 0 (laws.thread_length m) p q

  last_byte : at1 (core_bytes m) 2082 ≡ m.last
  unfolding nodes_of threads_of
  last_byte =
      past_kepts 2082 (length (joined (node_part m) 64) + (length (joined (thread_part m) 8) + 0)) (omega (arith, nodes_length, threads_length))
      ∙ get_or-append-add (joined (node_part m) 64) rest (length (joined (thread_part m) 8) + 0) 0
      ∙ get_or-append-add (joined (thread_part m) 8) (m.last ∷ []) 0 0

  flushes_length : length (flushes_bytes m) ≡ 184
  unfolding flushes_bytes
  flushes_length =
      let f = joined (flush_part m.flushed) 8 in
      let l = set_bytes m.late 8 in
      let h = set_bytes m.over_heads 8 in
      let n = set_bytes m.over 64 in
      length-append f (l ++ (h ++ n))
      ∙ omega (
        arith,
        length-append l (h ++ n),
        length-append h n,
        tabs.length_joined (flush_part m.flushed) 13 8 (laws.flush_length m.flushed),
        laws.sets_length m.late 8,
        laws.sets_length m.over_heads 8,
        laws.sets_length m.over 64,
      )

  pub record_length : length (record_bytes m) ≡ record_size
  unfolding record_bytes
  record_length = length-append (core_bytes m) (flushes_bytes m) ∙ omega (arith, laws.core_length m, flushes_length)

  -- the record's bytes are those, and behind them what is known of flushes
  in_core : (p : ℕ) → p < 2083 → get_or (record_bytes m) p 0 ≡ get_or (core_bytes m) p 0
  unfolding record_bytes
  in_core p h = get_or-append (core_bytes m) (flushes_bytes m) 0 p (omega (arith, laws.core_length m))

  past_core : (p j : ℕ) → p ≡ 2083 + j → get_or (record_bytes m) p 0 ≡ get_or (flushes_bytes m) j 0
  unfolding record_bytes
  past_core p j h =
      let e : p ≡ length (core_bytes m) + j = omega (arith, laws.core_length m) in
      ap (λ (k : ℕ). get_or (record_bytes m) k 0) e ∙ get_or-append-add (core_bytes m) (flushes_bytes m) j 0

  abbrev overs : List ℕ
  overs = set_bytes m.over_heads 8 ++ set_bytes m.over 64

  abbrev sets : List ℕ
  sets = set_bytes m.late 8 ++ overs

  flush_byte : (i j : ℕ) → i < 8 → j < 13 → get_or (record_bytes m) (2083 + i * 13 + j) 0 ≡ get_or (flush_part m.flushed i) j 0
  unfolding flushes_bytes
  flush_byte i j p q =
      past_core (2083 + i * 13 + j) (i * 13 + j) (add_assoc 2083 (i * 13) j)
      ∙ get_or-append (joined (flush_part m.flushed) 8) sets 0 (i * 13 + j) (omega (arith, tabs.length_joined (flush_part m.flushed) 13 8 (laws.flush_length m.flushed)))
      ∙ tabs.get_or_joined (flush_part m.flushed) 13 8 i j 0 (laws.flush_length m.flushed) p q

  past_flushed : (p j : ℕ) → p ≡ 2187 + j → get_or (record_bytes m) p 0 ≡ get_or sets j 0
  unfolding flushes_bytes
  past_flushed p j h =
      let f = joined (flush_part m.flushed) 8 in
      past_core p (length f + j) (omega (arith, tabs.length_joined (flush_part m.flushed) 13 8 (laws.flush_length m.flushed))) ∙ get_or-append-add f sets j 0

  past_late : (p j : ℕ) → p ≡ 2195 + j → get_or (record_bytes m) p 0 ≡ get_or overs j 0
  past_late p j h =
      let l = set_bytes m.late 8 in
      past_flushed p (length l + j) (omega (arith, laws.sets_length m.late 8)) ∙ get_or-append-add l overs j 0

  set_at : (l : List ℕ) (n i : ℕ) → i < n → get_or (set_bytes l n) i 0 ≡ get_or l i 0
  unfolding set_bytes
  set_at l n i h = tabs.get_or_tab (λ i. get_or l i 0) n i 0 h

  late_byte : (i : ℕ) → i < 8 → get_or (record_bytes m) (2187 + i) 0 ≡ get_or m.late i 0
  late_byte i h =
      past_flushed (2187 + i) i (omega arith)
      ∙ get_or-append (set_bytes m.late 8) overs 0 i (omega (arith, laws.sets_length m.late 8))
      ∙ set_at m.late 8 i h

  over_head_byte : (i : ℕ) → i < 8 → get_or (record_bytes m) (2195 + i) 0 ≡ get_or m.over_heads i 0
  over_head_byte i h =
      past_late (2195 + i) i (omega arith)
      ∙ get_or-append (set_bytes m.over_heads 8) (set_bytes m.over 64) 0 i (omega (arith, laws.sets_length m.over_heads 8))
      ∙ set_at m.over_heads 8 i h

  over_byte : (i : ℕ) → i < 64 → get_or (record_bytes m) (2203 + i) 0 ≡ get_or m.over i 0
  over_byte i h =
      let o = set_bytes m.over_heads 8 in
      past_late (2203 + i) (length o + i) (omega (arith, laws.sets_length m.over_heads 8))
      ∙ get_or-append-add o (set_bytes m.over 64) i 0
      ∙ set_at m.over 64 i h

  module _ (w : Whole m) where
    node_back : (i : ℕ) → i < 64 → node_in (record_bytes m) i ≡ node m i
    unfolding node_in node_part at_w
    node_back i p =
        let s = record_bytes m in
        let q = node_part m i in
        let at = 146 + i * 28 in
        let same : (j : ℕ) → j < 28 → get_or s (at + j) 0 ≡ get_or q j 0 = λ j h. in_core (146 + i * 28 + j) (omega arith) ∙ node_byte i j p h in
        let a : at4 s at ≡ (node m i).item = word_first s q at 28 same (omega (arith, record_length)) (laws.node_length m i) (omega arith) ∙ num.num_le 4 (node m i).item (w.node_item i) in
        let b : at8 s (at + 6) ≡ (node m i).index = long_at s q at 28 same (omega (arith, record_length)) (laws.node_length m i) 6 (omega arith) ∙ num.num_le 8 (node m i).index (w.node_index i) in
        λ k. record { item = a k; next = same 4 (omega arith) k; linked = same 5 (omega arith) k; index = b k; waits = same 14 (omega arith) k }

    kept_back : (i : ℕ) → i < 64 → kept_in (record_bytes m) i ≡ kept m i
    unfolding kept_in node_part at_w
    kept_back i p =
        let s = record_bytes m in
        let q = node_part m i in
        let at = 146 + i * 28 in
        let same : (j : ℕ) → j < 28 → get_or s (at + j) 0 ≡ get_or q j 0 = λ j h. in_core (146 + i * 28 + j) (omega arith) ∙ node_byte i j p h in
        let a : at8 s (at + 16) ≡ (kept m i).index = long_at s q at 28 same (omega (arith, record_length)) (laws.node_length m i) 16 (omega arith) ∙ num.num_le 8 (kept m i).index (w.kept_index i) in
        let b : at4 s (at + 24) ≡ (kept m i).item = word_at s q at 28 same (omega (arith, record_length)) (laws.node_length m i) 24 (omega arith) ∙ num.num_le 4 (kept m i).item (w.kept_item i) in
        λ k. record { linked = same 15 (omega arith) k; index = a k; item = b k }

    thread_back : (i : ℕ) → i < 8 → thread_in (record_bytes m) i ≡ thread m i
    unfolding thread_in thread_part at_w
    thread_back i p =
        let s = record_bytes m in
        let q = thread_part m i in
        let at = 1938 + i * 18 in
        let same : (j : ℕ) → j < 18 → get_or s (at + j) 0 ≡ get_or q j 0 = λ j h. in_core (1938 + i * 18 + j) (omega arith) ∙ thread_byte i j p h in
        let a : at8 s (at + 4) ≡ (thread m i).index = long_at s q at 18 same (omega (arith, record_length)) (laws.thread_length m i) 4 (omega arith) ∙ num.num_le 8 (thread m i).index (w.thread_index i) in
        let b : at4 s (at + 13) ≡ (thread m i).item = word_at s q at 18 same (omega (arith, record_length)) (laws.thread_length m i) 13 (omega arith) ∙ num.num_le 4 (thread m i).item (w.thread_item i) in
        let c : at1 s at ≡ (thread m i).step = at_first s q at 18 same (omega (arith, record_length)) (laws.thread_length m i) (omega arith) in
        λ k. record {
          step = c k;
          node = same 1 (omega arith) k;
          tail = same 2 (omega arith) k;
          head = same 3 (omega arith) k;
          index = a k;
          next = same 12 (omega arith) k;
          item = b k;
          held = same 17 (omega arith) k;
        }

    nodes_back : front (node_in (record_bytes m)) 64 blank_nodes ≡ m.nodes
    unfolding blank_nodes
    nodes_back = filled zero_node (node_in (record_bytes m)) 64 blank_nodes m.nodes refl w.nodes node_back

    copies_back : front (kept_in (record_bytes m)) 64 no_contents ≡ m.kept
    unfolding no_contents
    copies_back = filled no_content (kept_in (record_bytes m)) 64 no_contents m.kept refl w.copies kept_back

    threads_back : front (thread_in (record_bytes m)) 8 idle_threads ≡ m.threads
    unfolding idle_threads
    threads_back = filled zero_thread (thread_in (record_bytes m)) 8 idle_threads m.threads refl w.threads thread_back

    long_back : (l : List ℕ) (p i : ℕ) → p + i * 8 + 8 ≤ record_size → get_or l i 0 < 2 ^ 64
        → ((j : ℕ) → j < 8 → get_or (record_bytes m) (p + i * 8 + j) 0 ≡ get_or (long_part l i) j 0) → long_in (record_bytes m) p i ≡ get_or l i 0
    unfolding long_in long_part at_w
    long_back l p i h n same =
        let at = p + i * 8 in
        ap (at8 (record_bytes m)) (sym (add-zero at))
        ∙ long_at (record_bytes m) (long_part l i) at 8 same (omega (arith, record_length)) (laws.long_length l i) 0 (omega arith)
        ∙ num.num_le 8 (get_or l i 0) n

    heads_back : front (long_in (record_bytes m) 18) 8 no_heads ≡ m.heads
    unfolding no_heads
    heads_back = filled 0 (long_in (record_bytes m) 18) 8 no_heads m.heads refl w.heads (λ i p. long_back m.heads 18 i (omega arith) (w.index i) (λ j q. in_core (18 + i * 8 + j) (omega arith) ∙ head_byte i j p q))

    kepts_back : front (long_in (record_bytes m) 82) 8 no_heads ≡ m.kept_heads
    unfolding no_heads
    kepts_back = filled 0 (long_in (record_bytes m) 82) 8 no_heads m.kept_heads refl w.kept_heads_lem (λ i p. long_back m.kept_heads 82 i (omega arith) (w.head i) (λ j q. in_core (82 + i * 8 + j) (omega arith) ∙ kept_byte i j p q))

    free_back : at8 (record_bytes m) 10 ≡ m.free
    unfolding record_bytes core_bytes at_w
    free_back = num.num_le 8 m.free w.free

    last_back : at1 (record_bytes m) 2082 ≡ m.last
    last_back = in_core 2082 (omega arith) ∙ last_byte

    flush_back : (i : ℕ) → i < 8 → flush_in (record_bytes m) i ≡ flushed m i
    unfolding flush_in flush_part at_w
    flush_back i p =
        let s = record_bytes m in
        let q = flush_part m.flushed i in
        let at = 2083 + i * 13 in
        let same : (j : ℕ) → j < 13 → get_or s (at + j) 0 ≡ get_or q j 0 = λ j h. flush_byte i j p h in
        let a : at8 s (at + 1) ≡ (flushed m i).index = long_at s q at 13 same (omega (arith, record_length)) (laws.flush_length m.flushed i) 1 (omega arith) ∙ num.num_le 8 (flushed m i).index (w.flushed_index i) in
        let b : at4 s (at + 9) ≡ (flushed m i).item = word_at s q at 13 same (omega (arith, record_length)) (laws.flush_length m.flushed i) 9 (omega arith) ∙ num.num_le 4 (flushed m i).item (w.flushed_item i) in
        let c : at1 s at ≡ (flushed m i).linked = at_first s q at 13 same (omega (arith, record_length)) (laws.flush_length m.flushed i) (omega arith) in
        λ k. record { linked = c k; index = a k; item = b k }

    flushed_back : front (flush_in (record_bytes m)) 8 no_flushed ≡ m.flushed
    unfolding no_flushed
    flushed_back = filled no_content (flush_in (record_bytes m)) 8 no_flushed m.flushed refl w.flushes flush_back

    sets_back : (p : ℕ) (l : List ℕ) (n : ℕ) → length l ≡ n → ((i : ℕ) → i < n → get_or (record_bytes m) (p + i) 0 ≡ get_or l i 0) → front (set_in (record_bytes m) p) n (no_sets n) ≡ l
    unfolding set_in no_sets
    sets_back p l n h e = filled 0 (set_in (record_bytes m) p) n (no_sets n) l (length-replicate n 0) h e

    record_back : record_in (record_bytes m) ≡ m
    unfolding record_in record_bytes core_bytes
    record_back = λ k. record {
      form = m.form;
      n = m.n;
      t = m.t;
      head = m.head;
      heads = heads_back k;
      tail = m.tail;
      free = free_back k;
      nodes = nodes_back k;
      kept_heads = kepts_back k;
      kept = copies_back k;
      threads = threads_back k;
      last = last_back k;
      flushed = flushed_back k;
      late = sets_back 2187 m.late 8 w.late_sets late_byte k;
      over_heads = sets_back 2195 m.over_heads 8 w.over_heads_lem over_head_byte k;
      over = sets_back 2203 m.over 64 w.over_nodes over_byte k;
    }

  mark_back : is_record (record_bytes m) ≡ true
  unfolding marked record_bytes core_bytes
  mark_back = refl

  -- what is written and read again
  pub back_again : Whole m → read_record (record_bytes m) ≡ out Taken m
  unfolding read_record read_answer
  back_again w = rw (eq-eqb (length (record_bytes m)) record_size record_length, mark_back, record_back w)

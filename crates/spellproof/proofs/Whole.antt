-- Every entry has at most 64 bytes: a buffer of 64 bytes for each entry takes the whole text.
use Prim.Native.Nat.{ℕ, zero, suc, ◌+◌, ◌-◌, ◌*◌, ◌≤◌, ◌<◌}
use mathlib.Core.Path.{◌≡◌, refl, ap, ◌∙◌}
use mathlib.Core.Bool.{Bool, true, false}
use mathlib.Core.List.{List, [], ◌++◌}
use native.Mathlib.Omega.{arith}
use borrow.Author.Tests.{ltb-false, ltb-true, le-ltb}
use lib.ListN.{length, length-append}
use lib.Dec.{eqb, ltb}
use Rattle.lists.specs.Find.{pick, both}
use Rattle.lists.specs.Text.{text, decimal}
use Rattle.lists.proofs.BoolLaws.{no_of}
use Rattle.answer.specs.Answers.{accepted}
use Rattle.image.specs.Form.{per_desk, width_of, node_place}
use Rattle.image.specs.declared.Content.{Content}
use Rattle.image.proofs.ByteLaws as num
use Rattle.machine.specs.declared.Event.{Event}
use Rattle.schedule.specs.Layout.{threads_in, count_in, nodes_in, image_part, schedule_shape, event_in, event_place, schedule_answer}
use Rattle.page.specs.Filled.{fitting}
use Rattle.page.specs.Printed.{newline}
use Rattle.printing.proofs.Short as short
use Rattle.codec.proofs.Accepted as acc
use Rattle.spelling.proofs.PlaceLaws as places
use Rattle.spelling.specs.Writing.{threads_line, version_line, head_line, node_line, event_line, image_form, heads_in, head_at, node_at, is_blank_node, node_entry, follows, run_end, event_entry, entry_of, entries_in}
use Rattle.spellproof.proofs.Acts as acts
use Rattle.spellproof.proofs.Runs as runs

ten : (n : ℕ) → n ≤ 4294967295 → length (decimal n) ≤ 10
ten n h = short.decimal_short 10 n (omega arith) (omega arith)

twenty : (n : ℕ) → n ≤ 18446744073709551615 → length (decimal n) ≤ 20
twenty n h = short.decimal_short 20 n (omega arith) (omega arith)

-- ---- lines

either : (b : Bool) (x y : List ℕ) → length x ≤ 64 → length y ≤ 64 → length (pick b x y) ≤ 64
either true x y p q = p
either false x y p q = q

version_short : (f : ℕ) → f ≤ 255 → length (version_line f) ≤ 20
unfolding version_line text
version_short f h = by (eqb f 1)
  where
    by : (b : Bool) → length (pick b [] (text "version " ++ decimal f ++ newline)) ≤ 20
    by true = omega arith
    by false = simp length-append (omega (arith, ten f (omega arith)))

one_short : (a c : List ℕ) (n : ℕ) → length a ≤ 12 → length c ≤ 12 → n ≤ 4294967295 → length (a ++ decimal n ++ c) ≤ 64
one_short a c n p q h = simp length-append (omega (arith, ten n h))

two_short : (a c : List ℕ) (n m : ℕ) → length a ≤ 12 → length c ≤ 12 → n ≤ 4294967295 → m ≤ 4294967295 → length (decimal n ++ a ++ decimal m ++ c) ≤ 64
two_short a c n m p q h g = simp length-append (omega (arith, ten n h, ten m g))

last_short : (a c : List ℕ) (n : ℕ) → length a ≤ 12 → length c ≤ 12 → n ≤ 4294967295 → length (decimal n ++ a ++ c) ≤ 64
last_short a c n p q h = simp length-append (omega (arith, ten n h))

threads_short : (f t : ℕ) → t ≤ 255 → length (threads_line f t) ≤ 64
unfolding threads_line text
threads_short f t h =
    either (per_desk f) _ _ (one_short (text "desks ") newline t (omega arith) (omega arith) (omega arith))
    (one_short (text "threads ") newline t (omega arith) (omega arith) (omega arith))

sole_short : (f x : ℕ) → f ≤ 255 → x ≤ 18446744073709551615 → length (version_line f ++ (text "head " ++ decimal x ++ newline)) ≤ 64
unfolding text
sole_short f x p h = simp length-append (omega (arith, version_short f p, twenty x h))

named_short : (k x : ℕ) → k ≤ 255 → x ≤ 18446744073709551615 → length (text "head " ++ decimal k ++ text " " ++ decimal x ++ newline) ≤ 64
unfolding text
named_short k x p h = simp length-append (omega (arith, ten k (omega arith), twenty x h))

head_short : (f k x : ℕ) → f ≤ 255 → k ≤ 255 → x ≤ 18446744073709551615 → length (head_line f k x) ≤ 64
unfolding head_line
head_short f k x p q h = either (per_desk f) _ _ (named_short k x q h) (sole_short f x p h)

node_short : (i : ℕ) (v : Content) → i ≤ 4294967295 → v.linked ≤ 4294967295 → v.index ≤ 18446744073709551615 → v.item ≤ 4294967295 → length (node_line i v) ≤ 64
unfolding node_line text
node_short i v p q r h = simp length-append (omega (arith, ten i p, ten v.linked q, twenty v.index r, ten v.item h))

module _ (e : Event) (r : ℕ) (k : e.kind ≤ 4294967295) (n : e.number ≤ 4294967295) (i : e.item ≤ 4294967295) (c : r ≤ 4294967295) where
  abbrev plain : List ℕ
  plain = text "event " ++ decimal e.kind ++ text " " ++ decimal e.number ++ text " " ++ decimal e.item ++ newline

  plain_short : length plain ≤ 64
  unfolding text
  plain_short = simp length-append (omega (arith, ten e.kind k, ten e.number n, ten e.item i))

  event_short : length (event_line e r) ≤ 64
  unfolding event_line text
  event_short =
      either (eqb e.kind 1) _ _ (two_short (text " enqueue ") newline e.number e.item (omega arith) (omega arith) n i)
      (either (both (eqb e.kind 2) (eqb e.item 0)) _ _ (last_short (text " dequeue") newline e.number (omega arith) (omega arith) n)
      (either (both (eqb e.kind 3) (eqb e.item 0)) _ _ (two_short (text " step ") newline e.number r (omega arith) (omega arith) n c)
      (either (both (eqb e.kind 4) (eqb e.item 0)) _ _ (one_short (text "write-back ") newline e.number (omega arith) (omega arith) n)
      (either (both (eqb e.kind 5) (both (eqb e.number 0) (eqb e.item 0))) _ _ (omega arith) plain_short))))

-- ---- entries of a schedule that is taken up to its events

module _ (s : List ℕ) (bs : num.Bytes s) (lines : heads_in s ≤ 8) (few : nodes_in s ≤ 64) (many : count_in s ≤ 4096) where
  part : num.Bytes (image_part s)
  part = acts.part_bytes s bs

  node_entry_lem : (i : ℕ) → i ≤ 5000 → length (node_entry s i) ≤ 64
  unfolding node_entry
  node_entry_lem i p =
      let f = image_form s in
      let at = node_place (schedule_shape s) i in
      either (is_blank_node (node_at s i)) [] (node_line i (node_at s i)) (omega arith)
      (node_short i (node_at s i) (omega arith) (omega (arith, part at)) (acts.index_wide f (image_part s) (at + 1) part) (acts.small4 (image_part s) (at + 1 + width_of f) part))

  event_entry_lem : (j : ℕ) → j < count_in s → length (event_entry s j) ≤ 64
  unfolding event_entry
  event_entry_lem j p =
      let at = event_place (schedule_shape s) j in
      either (follows s j) [] (event_line (event_in s j) (run_end s j - j)) (omega arith)
      (event_short (event_in s j) (run_end s j - j) (omega (arith, bs at)) (omega (arith, bs (at + 1))) (acts.small4 s (at + 2) bs) (omega (arith, runs.run_le s j p)))

  abbrev from3 : ℕ → List ℕ
  from3 k = pick (ltb k (2 + heads_in s + nodes_in s)) (node_entry s (k - 2 - heads_in s)) (event_entry s (k - 2 - heads_in s - nodes_in s))

  third : (k : ℕ) → k < entries_in s → (b : Bool) → ltb k (2 + heads_in s + nodes_in s) ≡ b
      → length (pick b (node_entry s (k - 2 - heads_in s)) (event_entry s (k - 2 - heads_in s - nodes_in s))) ≤ 64
  third k p true e = node_entry_lem (k - 2 - heads_in s) (omega arith)
  third k p false e = event_entry_lem (k - 2 - heads_in s - nodes_in s) (omega (arith, ltb-false k (2 + heads_in s + nodes_in s) e))

  abbrev from2 : ℕ → List ℕ
  from2 k = pick (ltb k (2 + heads_in s)) (head_line (image_form s) (k - 2) (head_at s (k - 2))) (from3 k)

  second : (k : ℕ) → k < entries_in s → (b : Bool) → ltb k (2 + heads_in s) ≡ b
      → length (pick b (head_line (image_form s) (k - 2) (head_at s (k - 2))) (from3 k)) ≤ 64
  second k p true e =
      let l = ltb-true k (2 + heads_in s) e in
      head_short (image_form s) (k - 2) (head_at s (k - 2)) (acts.form_small s bs lines few many) (omega arith) (acts.head_wide s bs lines few many (k - 2))
  second k p false e = third k p (ltb k (2 + heads_in s + nodes_in s)) refl

  entry_short : (k : ℕ) → k < entries_in s → length (entry_of s k) ≤ 64
  unfolding entry_of text
  entry_short k p =
      either (eqb k 0) (text "nodes " ++ decimal (nodes_in s) ++ newline) (pick (eqb k 1) (threads_line (image_form s) (threads_in s)) (from2 k))
      (one_short (text "nodes ") newline (nodes_in s) (omega arith) (omega arith) (omega arith))
      (either (eqb k 1) (threads_line (image_form s) (threads_in s)) (from2 k) (threads_short (image_form s) (threads_in s) (omega (arith, bs 5)))
      (second k p (ltb k (2 + heads_in s)) refl))

-- ---- the whole text

all_fit : (f : ℕ → List ℕ) (c k room : ℕ) → ((i : ℕ) → i < k + c → length (f i) ≤ 64) → c * 64 ≤ room → fitting f k c room ≡ c
unfolding fitting
all_fit f zero k room h p = refl
all_fit f (suc c) k room h p =
    no_of 0 (suc (fitting f (suc k) c (room - length (f k)))) (ltb room (length (f k))) (le-ltb room (length (f k)) (omega (arith, h k (omega arith))))
    ∙ ap suc (all_fit f c (suc k) (room - length (f k)) (λ i q. h i (omega arith)) (omega (arith, h k (omega arith))))

module _ (s : List ℕ) (bs : num.Bytes s) (h : accepted (schedule_answer s) ≡ true) where
  abbrev taken : acc.ScheduleTaken s
  taken = acc.schedule_taken s h

  lines : heads_in s ≤ 8
  lines = places.heads_few s taken.threads

  pub entries_short : (k : ℕ) → k < entries_in s → length (entry_of s k) ≤ 64
  entries_short = entry_short s bs lines (acc.nodes_most (nodes_in s) taken.part.nodes) taken.count

  pub entries_few : entries_in s ≤ 4170
  entries_few = omega (arith, lines, acc.nodes_most (nodes_in s) taken.part.nodes, taken.count)

  -- so 266,880 bytes are room for the words of every schedule
  pub whole : (room : ℕ) → entries_in s * 64 ≤ room → fitting (entry_of s) 0 (entries_in s) room ≡ entries_in s
  whole room p = all_fit (entry_of s) (entries_in s) 0 room (λ i q. entries_short i (omega arith)) p

-- The words of a schedule, read back line by line.
use Prim.Native.Nat.{ℕ, zero, suc, ◌+◌, ◌-◌, ◌*◌, ◌≤◌, ◌<◌}
use mathlib.Core.Path.{◌≡◌, refl, sym, ap, ap₂, subst₂, ◌∙◌}
use mathlib.Core.Bool.{Bool, true, false}
use mathlib.Core.List.{List, [], ◌∷◌, ◌++◌, append_assoc, append-nil}
use native.Mathlib.Omega.{arith}
use native.Mathlib.Nat.{zero-add}
use borrow.Author.Tests.{eqb-true, ne_eqb, lt-ltb, le-ltb}
use lib.Seq.{get_or-drop}
use lib.Dec.{eqb}
use Rattle.lists.specs.Find.{pick, both}
use Rattle.lists.specs.Tab.{joined}
use Rattle.lists.specs.Text.{text, decimal}
use Rattle.lists.proofs.BoolLaws.{both_true}
use Rattle.image.specs.Bytes.{at4, at_w}
use Rattle.image.specs.Form.{per_desk, width_of, top_of, heads_at, node_place}
use Rattle.image.specs.Layout.{marked, form_in}
use Rattle.machine.specs.declared.Event.{Event}
use Rattle.schedule.specs.Layout.{threads_in, count_in, nodes_in, image_part, schedule_shape, event_in, event_place}
use Rattle.page.specs.Filled.{lines_on}
use Rattle.page.specs.Printed.{newline}
use Rattle.printing.proofs.Fittings as fits
use Rattle.image.proofs.ByteLaws as num
use Rattle.image.proofs.FormLaws as forms
use Rattle.spelling.specs.declared.Act.{Act}
use Rattle.std.specs.Prelude.{Some, None}
use Rattle.spelling.specs.declared.Act.TheVariants as line_is
use Rattle.spelling.specs.Words.{no_line, ended, word_on, key_of, grown, letter_more}
use Rattle.spelling.specs.Lines.{key_in, shape_of, said_by, said, acts_from, acts_of}
use Rattle.spelling.specs.Writing.{threads_line, version_line, head_line, node_line, event_line, image_form, heads_in, head_at, node_at, is_blank_node, node_entry, is_step, follows, run_end, event_entry, entry_of, words_of}
use Rattle.spellproof.proofs.ReadBack as back
use Rattle.spellproof.proofs.Runs as runs

-- the text a, read from a line's begin on, says l and ends at a line's begin
pub record Says (a : List ℕ) (l : List Act) : Type 0 where
  pub on : (r : List ℕ) → acts_from no_line (a ++ r) ≡ l ++ acts_from no_line r

pub says_none : Says [] []
says_none = record { on = λ r. refl }

pub says_also : {a b : List ℕ} {k l : List Act} → Says a k → Says b l → Says (a ++ b) (k ++ l)
says_also {a} {b} {k} {l} f g = record {
  on = λ r. ap (acts_from no_line) (append_assoc a b r) ∙ f.on (b ++ r) ∙ ap (λ z. k ++ z) (g.on r) ∙ sym (append_assoc k l (acts_from no_line r));
}

pub says_as : {a b : List ℕ} {k l : List Act} → a ≡ b → k ≡ l → Says a k → Says b l
says_as p q f = subst₂ (λ a k. Says a k) p q f

pub says_joined : (f : ℕ → List ℕ) (g : ℕ → List Act) (n : ℕ) → ((i : ℕ) → i < n → Says (f i) (g i)) → Says (joined f n) (joined g n)
unfolding joined
says_joined f g zero h = says_none
says_joined f g (suc n) h = says_also (says_joined f g n (λ i p. h i (omega arith))) (h n (omega arith))

-- ---- an event's line

module _ (e : Event) (r : ℕ) (hk : e.kind ≤ 255) (hn : e.number ≤ 255) (hv : e.item ≤ 4294967295) (hr : r ≤ 4294967295) (alone : is_step e ≡ false → r ≡ 1) where
  abbrev says : List Act
  says = line_is.Events e.kind e.number e.item r ∷ []

  no_step_lem : (e.kind ≡ 3 → ⊥) → is_step e ≡ false
  no_step_lem h = rw (ne_eqb e.kind 3 h)

  other_item : (b : Bool) → eqb e.item 0 ≡ b → both (eqb e.kind 3) b ≡ false → is_step e ≡ false
  other_item b p q = rw p q

  line_0 : (b : Bool) → both (eqb e.kind 5) (both (eqb e.number 0) (eqb e.item 0)) ≡ b → is_step e ≡ false
      → eqb e.kind 1 ≡ false → both (eqb e.kind 2) (eqb e.item 0) ≡ false → both (eqb e.kind 4) (eqb e.item 0) ≡ false → Says (event_line e r) says
  unfolding event_line
  line_0 true p n a b d =
      let x = both_true (eqb e.kind 5) _ p in
      let y = both_true (eqb e.number 0) (eqb e.item 0) x.1 in
      let k = eqb-true e.kind 5 x.0 in
      let z = eqb-true e.number 0 y.0 in
      let v = eqb-true e.item 0 y.1 in
      rw (a, b, n, d, p, k, z, v, alone n) (record { on = λ q. back.crash_said q })
  line_0 false p n a b d = rw (a, b, n, d, p, alone n) (record { on = λ q. back.event_said e.kind e.number e.item q hk hn hv })

  line_4 : (b : Bool) → both (eqb e.kind 4) (eqb e.item 0) ≡ b → is_step e ≡ false
      → eqb e.kind 1 ≡ false → both (eqb e.kind 2) (eqb e.item 0) ≡ false → Says (event_line e r) says
  unfolding event_line
  line_4 true p n a b =
      let x = both_true (eqb e.kind 4) _ p in
      let k = eqb-true e.kind 4 x.0 in
      let v = eqb-true e.item 0 x.1 in
      rw (a, b, n, p, k, v, alone n) (record { on = λ q. back.write_back_said e.number q hn })
  line_4 false p n a b = line_0 (both (eqb e.kind 5) (both (eqb e.number 0) (eqb e.item 0))) refl n a b p

  line_3 : (b : Bool) → is_step e ≡ b → eqb e.kind 1 ≡ false → both (eqb e.kind 2) (eqb e.item 0) ≡ false → Says (event_line e r) says
  unfolding event_line
  line_3 true p a b =
      let x = both_true (eqb e.kind 3) _ p in
      let k = eqb-true e.kind 3 x.0 in
      let v = eqb-true e.item 0 x.1 in
      rw (a, b, p, k, v) (record { on = λ q. back.step_said e.number r q hn hr })
  line_3 false p a b = line_4 (both (eqb e.kind 4) (eqb e.item 0)) refl p a b

  line_2 : (b : Bool) → both (eqb e.kind 2) (eqb e.item 0) ≡ b → eqb e.kind 1 ≡ false → Says (event_line e r) says
  unfolding event_line
  line_2 true p a =
      let x = both_true (eqb e.kind 2) _ p in
      let k = eqb-true e.kind 2 x.0 in
      let v = eqb-true e.item 0 x.1 in
      rw (a, p, k, v, alone (no_step_lem (λ q. omega arith))) (record { on = λ q. back.dequeue_said e.number q hn })
  line_2 false p a = line_3 (is_step e) refl a p

  line_1 : (b : Bool) → eqb e.kind 1 ≡ b → Says (event_line e r) says
  unfolding event_line
  line_1 true p =
      let k = eqb-true e.kind 1 p in
      rw (p, k, alone (no_step_lem (λ q. omega arith))) (record { on = λ q. back.enqueue_said e.number e.item q hn hv })
  line_1 false p = line_2 (both (eqb e.kind 2) (eqb e.item 0)) refl p

  pub line_says : Says (event_line e r) says
  line_says = line_1 (eqb e.kind 1) refl

-- ---- the entries of a schedule that is taken up to its events

pub small4 : (s : List ℕ) (i : ℕ) → num.Bytes s → at4 s i ≤ 4294967295
small4 s i b = let h : at4 s i < 4294967296 = num.at_small 4 s i b in omega (arith, h)

-- an index is within its form's width, and so within 64 bits
pub index_small : (f : ℕ) (s : List ℕ) (i : ℕ) → num.Bytes s → at_w (width_of f) s i ≤ top_of f
unfolding top_of
index_small f s i b = omega (arith, num.at_small (width_of f) s i b)

pub index_wide : (f : ℕ) (s : List ℕ) (i : ℕ) → num.Bytes s → at_w (width_of f) s i ≤ 18446744073709551615
index_wide f s i b = omega (arith, index_small f s i b, forms.top_small f)

pub part_bytes : (s : List ℕ) → num.Bytes s → num.Bytes (image_part s)
part_bytes s b i = omega (arith, get_or-drop 8 s i 0, b (8 + i))

abbrev pub node_acts : List ℕ → ℕ → List Act
node_acts s i = pick (is_blank_node (node_at s i)) [] (line_is.Node i (node_at s i).linked (node_at s i).index (node_at s i).item ∷ [])

abbrev pub event_acts : List ℕ → ℕ → List Act
event_acts s j = pick (follows s j) [] (line_is.Events (event_in s j).kind (event_in s j).number (event_in s j).item (run_end s j - j) ∷ [])

abbrev pub version_acts : ℕ → List Act
version_acts f = pick (eqb f 1) [] (line_is.Version f ∷ [])

abbrev pub thread_acts : ℕ → ℕ → List Act
thread_acts f t = pick (per_desk f) (line_is.Desks t ∷ []) (line_is.Threads t ∷ [])

-- head line k, with the index x k
abbrev pub line_acts : ℕ → (ℕ → ℕ) → ℕ → List Act
line_acts f x k = pick (per_desk f) (line_is.Head (Some k) (x k) ∷ []) (version_acts f ++ (line_is.Head None (x k) ∷ []))

abbrev pub open_acts : List ℕ → List Act
open_acts s = line_is.Nodes (nodes_in s) ∷ thread_acts (image_form s) (threads_in s)

abbrev pub head_acts : List ℕ → ℕ → List Act
head_acts s = line_acts (image_form s) (head_at s)

threads_say : (f t : ℕ) → t ≤ 255 → Says (threads_line f t) (thread_acts f t)
unfolding threads_line
threads_say f t h = by (per_desk f)
  where
    by : (b : Bool) → Says (pick b (text "desks " ++ decimal t ++ newline) (text "threads " ++ decimal t ++ newline)) (pick b (line_is.Desks t ∷ []) (line_is.Threads t ∷ []))
    by true = record { on = λ r. back.desks_said t r h }
    by false = record { on = λ r. back.threads_said_lem t r h }

version_says : (f : ℕ) → f ≤ 255 → Says (version_line f) (version_acts f)
unfolding version_line
version_says f h = by (eqb f 1)
  where
    by : (b : Bool) → Says (pick b [] (text "version " ++ decimal f ++ newline)) (pick b [] (line_is.Version f ∷ []))
    by true = says_none
    by false = record { on = λ r. back.version_said f r (omega arith) }

head_says : (f k : ℕ) (x : ℕ → ℕ) → f ≤ 255 → k ≤ 255 → x k ≤ 18446744073709551615 → Says (head_line f k (x k)) (line_acts f x k)
unfolding head_line
head_says f k x hf hk hx = by (per_desk f)
  where
    by : (b : Bool) → Says (pick b (text "head " ++ decimal k ++ text " " ++ decimal (x k) ++ newline) (version_line f ++ (text "head " ++ decimal (x k) ++ newline)))
        (pick b (line_is.Head (Some k) (x k) ∷ []) (version_acts f ++ (line_is.Head None (x k) ∷ [])))
    by true = record { on = λ r. back.named_said k (x k) r hk hx }
    by false = says_also (version_says f hf) (record { on = λ r. back.head_said (x k) r hx })

module _ (s : List ℕ) (bs : num.Bytes s) (lines : heads_in s ≤ 8) (few : nodes_in s ≤ 64) (short : count_in s ≤ 4096) where
  pub form_small : image_form s ≤ 255
  unfolding form_in
  form_small = by (marked 85 81 73 1 (image_part s)) (marked 85 81 73 2 (image_part s)) (marked 85 81 80 1 (image_part s))
    where
      by : (a b c : Bool) → pick a 1 (pick b 2 (pick c 4 0)) ≤ 255
      by true b c = omega arith
      by false true c = omega arith
      by false false true = omega arith
      by false false false = omega arith

  pub head_wide : (k : ℕ) → head_at s k ≤ 18446744073709551615
  unfolding head_at
  head_wide k = index_wide (image_form s) (image_part s) (heads_at (image_form s) + k * width_of (image_form s)) (part_bytes s bs)

  node_says : (i : ℕ) → i < nodes_in s → Says (node_entry s i) (node_acts s i)
  unfolding node_entry node_line
  node_says i h = by (is_blank_node (node_at s i)) refl
    where
      by : (b : Bool) → is_blank_node (node_at s i) ≡ b → Says (node_entry s i) (node_acts s i)
      by true e = rw e says_none
      by false e =
          rw e
          (record {
            on = λ r.
                let f = image_form s in
                let p = node_place (schedule_shape s) i in
                back.node_said i (node_at s i).linked (node_at s i).index (node_at s i).item r (omega arith) (omega (arith, part_bytes s bs p))
                (index_wide f (image_part s) (p + 1) (part_bytes s bs)) (small4 (image_part s) (p + 1 + width_of f) (part_bytes s bs));
          })

  event_says : (j : ℕ) → j < count_in s → Says (event_entry s j) (event_acts s j)
  unfolding event_entry
  event_says j h = by (follows s j) refl
    where
      by : (b : Bool) → follows s j ≡ b → Says (event_entry s j) (event_acts s j)
      by true e = rw e says_none
      by false e =
          rw e
          (line_says (event_in s j) (run_end s j - j) (omega (arith, bs (event_place (schedule_shape s) j))) (omega (arith, bs (event_place (schedule_shape s) j + 1)))
          (small4 s (event_place (schedule_shape s) j + 2) bs) (omega (arith, runs.run_le s j h)) (λ q. omega (arith, runs.run_one s j h q)))

  heads_at_lem : (k : ℕ) → k < heads_in s → entry_of s (2 + k) ≡ head_line (image_form s) k (head_at s k)
  unfolding entry_of
  heads_at_lem k h =
      let e : 2 + k - 2 ≡ k = omega arith in
      rw (ne_eqb (2 + k) 0 (λ q. omega arith), ne_eqb (2 + k) 1 (λ q. omega arith), lt-ltb (2 + k) (2 + heads_in s) (omega arith))
      (ap (λ k. head_line (image_form s) k (head_at s k)) e)

  nodes_at : (i : ℕ) → i < nodes_in s → entry_of s (2 + heads_in s + i) ≡ node_entry s i
  unfolding entry_of
  nodes_at i h =
      let k = 2 + heads_in s + i in
      let e : 2 + heads_in s + i - 2 - heads_in s ≡ i = omega arith in
      rw (ne_eqb k 0 (λ q. omega arith), ne_eqb k 1 (λ q. omega arith), le-ltb k (2 + heads_in s) (omega arith), lt-ltb k (2 + heads_in s + nodes_in s) (omega arith))
      (ap (node_entry s) e)

  events_at : (j : ℕ) → entry_of s (2 + heads_in s + nodes_in s + j) ≡ event_entry s j
  unfolding entry_of
  events_at j =
      let k = 2 + heads_in s + nodes_in s + j in
      let e : 2 + heads_in s + nodes_in s + j - 2 - heads_in s - nodes_in s ≡ j = omega arith in
      rw (ne_eqb k 0 (λ q. omega arith), ne_eqb k 1 (λ q. omega arith), le-ltb k (2 + heads_in s) (omega arith), le-ltb k (2 + heads_in s + nodes_in s) (omega arith))
      (ap (event_entry s) e)

  says_0 : Says (text "nodes " ++ decimal (nodes_in s) ++ newline) (line_is.Nodes (nodes_in s) ∷ [])
  says_0 = record { on = λ r. back.nodes_said (nodes_in s) r (omega arith) }

  first_says : Says (lines_on (entry_of s) 0 2) (open_acts s)
  unfolding lines_on joined entry_of
  first_says = says_also (says_also says_none says_0) (threads_say (image_form s) (threads_in s) (omega (arith, bs 5)))

  heads_say : Says (lines_on (entry_of s) 2 (heads_in s)) (joined (head_acts s) (heads_in s))
  unfolding lines_on
  heads_say =
      says_joined (λ k. entry_of s (2 + k)) (head_acts s) (heads_in s)
      (λ k h. subst₂ (λ a l. Says a l) (sym (heads_at_lem k h)) refl (head_says (image_form s) k (head_at s) form_small (omega arith) (head_wide k)))

  middle_says : Says (lines_on (entry_of s) (2 + heads_in s) (nodes_in s)) (joined (node_acts s) (nodes_in s))
  unfolding lines_on
  middle_says =
      says_joined (λ i. entry_of s (2 + heads_in s + i)) (node_acts s) (nodes_in s)
      (λ i h. subst₂ (λ a k. Says a k) (sym (nodes_at i h)) refl (node_says i h))

  last_says : Says (lines_on (entry_of s) (2 + heads_in s + nodes_in s) (count_in s)) (joined (event_acts s) (count_in s))
  unfolding lines_on
  last_says =
      says_joined (λ j. entry_of s (2 + heads_in s + nodes_in s + j)) (event_acts s) (count_in s)
      (λ j h. subst₂ (λ a k. Says a k) (sym (events_at j)) refl (event_says j h))

  abbrev on : ℕ → ℕ → List ℕ
  on = lines_on (entry_of s)

  parts : words_of s ≡ on 0 2 ++ on 2 (heads_in s) ++ on (2 + heads_in s) (nodes_in s) ++ on (2 + heads_in s + nodes_in s) (count_in s)
  unfolding words_of
  parts =
      let h = heads_in s in
      let n = nodes_in s in
      fits.on_join (entry_of s) 0 (2 + h + n) (count_in s)
      ∙ ap₂ (λ a k. a ++ on k (count_in s))
      (fits.on_join (entry_of s) 0 (2 + h) n ∙ ap₂ (λ a k. a ++ on k n) (fits.on_join (entry_of s) 0 2 h) (zero-add (2 + h)))
      (zero-add (2 + h + n))

  last_line : acts_from no_line [] ≡ line_is.Nothing ∷ []
  unfolding acts_from said ended key_in shape_of said_by key_of word_on text grown letter_more
  last_line = refl

  -- what the words of a schedule say, line by line
  abbrev pub all_acts : List Act
  all_acts = open_acts s ++ joined (head_acts s) (heads_in s) ++ joined (node_acts s) (nodes_in s) ++ joined (event_acts s) (count_in s)

  pub words_acts : acts_of (words_of s) ≡ all_acts ++ (line_is.Nothing ∷ [])
  unfolding acts_of
  words_acts =
      ap (acts_from no_line) (sym (append-nil (words_of s)) ∙ ap (λ a. a ++ []) parts)
      ∙ (says_also (says_also (says_also first_says heads_say) middle_says) last_says).on []
      ∙ ap (λ z. all_acts ++ z) last_line

-- The words of a schedule, read, are the schedule.
use Prim.Native.Nat.{ℕ, zero, suc, ◌+◌, ◌-◌, ◌*◌, ◌%◌, ◌≤◌, ◌<◌}
use mathlib.Core.Path.{◌≡◌, refl, sym, ap, ap₂, ◌∙◌}
use mathlib.Core.Bool.{Bool, true, false}
use mathlib.Core.List.{List, [], ◌∷◌, ◌++◌}
use native.Mathlib.Omega.{arith}
use native.Mathlib.Numerals.{add-one}
use borrow.Author.Tests.{eqb-true, le-ltb, lt-ltb, le-leb}
use lib.ListN.{length, take, drop, replicate, length-drop}
use lib.Seq.{drop-drop, take_all}
use lib.Dec.{eqb}
use Rattle.lists.specs.Tab.{joined, over}
use Rattle.lists.proofs.BoolLaws.{both_true}
use Rattle.lists.proofs.TabLaws as tabs
use Rattle.answer.specs.Answers.{accepted}
use Rattle.image.specs.Bytes.{le4}
use Rattle.image.specs.Form.{known, width_of, node_size, node_place}
use Rattle.image.specs.Layout.{node_bytes}
use Rattle.image.specs.declared.Shape.{Shape}
use Rattle.machine.specs.declared.Event.{Event}
use Rattle.schedule.specs.Layout.{count_in, nodes_in, image_part, schedule_shape, event_in, event_place, schedule_answer}
use Rattle.image.proofs.ByteLaws as num
use Rattle.image.proofs.FormLaws as forms
use Rattle.codec.proofs.Accepted as acc
use Rattle.codec.proofs.ReadWrite as again
use Rattle.spelling.specs.declared.Act.{Act}
use Rattle.spelling.specs.declared.Act.TheVariants as line_is
use Rattle.spelling.specs.declared.Survey.{Survey}
use Rattle.spelling.specs.Lines.{acts_of}
use Rattle.spelling.specs.Layout.{said_shape, node_start, events_start, events_place, size_of, node_said}
use Rattle.spelling.specs.Reading.{Taken, blank_file, times, put_by, reach_by, put_all, file_of, read_answer}
use Rattle.spelling.specs.Writing.{image_form, heads_in, node_at, is_blank_node, follows, run_end, words_of}
use Rattle.spellproof.proofs.Acts as acts
use Rattle.spellproof.proofs.Parts.{six}
use Rattle.spellproof.proofs.Opening as opening
use Rattle.spellproof.proofs.Opening.{reach_all, put_also, reach_also, reach_joined}
use Rattle.spellproof.proofs.Runs as runs
use Rattle.spellproof.proofs.Surveys as saying
use Rattle.spellproof.proofs.Zeroed as zeroed

-- a blank node's bytes
blank_node : (f : ℕ) → known f ≡ true → node_bytes f (record { linked = 0; index = 0; item = 0 }) ≡ replicate (node_size f) 0
unfolding width_of node_size
blank_node f h = forms.by_form (λ f. node_bytes f (record { linked = 0; index = 0; item = 0 }) ≡ replicate (node_size f) 0) f h refl refl refl

module _ (s : List ℕ) (bs : num.Bytes s) (h : accepted (schedule_answer s) ≡ true) where
  abbrev taken : acc.ScheduleTaken s
  taken = acc.schedule_taken s h

  abbrev F : ℕ
  F = image_form s

  abbrev G : Shape
  G = schedule_shape s

  abbrev at : ℕ → ℕ
  at i = node_start G i

  abbrev Z : ℕ
  Z = at (nodes_in s) + count_in s * 6

  kf : known F ≡ true
  kf = opening.kf s bs h

  size : length s ≡ Z
  size = opening.size s bs h

  none_put : (x : List ℕ) (p : ℕ) → put_all G Z x p [] ≡ x
  none_put = opening.none_put s bs h

  -- ---- nodes

  node_place_lem : (i : ℕ) → i < nodes_in s → at i + node_size F ≤ length s
  node_place_lem i p = omega (arith, size, forms.place_within G i (nodes_in s) p)

  abbrev said : ℕ → Act
  said i = line_is.Node i (node_at s i).linked (node_at s i).index (node_at s i).item

  node_bytes_lem : (i : ℕ) → i < nodes_in s → node_said F (node_at s i).linked (node_at s i).index (node_at s i).item ≡ take (node_size F) (drop (at i) s)
  node_bytes_lem i p =
      let b = acts.part_bytes s bs in
      let x : (node_at s i).linked % 256 ≡ (node_at s i).linked = omega (arith, b (node_place G i)) in
      let y : (node_at s i).item % 4294967296 ≡ (node_at s i).item = omega (arith, acts.small4 (image_part s) (node_place G i + 1 + width_of F) b) in
      ap₂ (λ l v. node_bytes F (record { linked = l; index = (node_at s i).index; item = v })) x y
      ∙ again.node_there F (image_part s) (node_place G i) b kf (omega (arith, node_place_lem i p, length-drop 8 s))
      ∙ ap (take (node_size F)) (drop-drop (node_place G i) 8 s)

  blank_bytes : (i : ℕ) → i < nodes_in s → is_blank_node (node_at s i) ≡ true → take (node_size F) (drop (at i) s) ≡ replicate (node_size F) 0
  blank_bytes i p e =
      let a = both_true (eqb (node_at s i).linked 0) _ e in
      let b = both_true (eqb (node_at s i).index 0) (eqb (node_at s i).item 0) a.1 in
      sym (node_bytes_lem i p)
      ∙ rw (eqb-true (node_at s i).linked 0 a.0, eqb-true (node_at s i).index 0 b.0, eqb-true (node_at s i).item 0 b.1) (blank_node F kf)

  one_node : (x : List ℕ) (p i : ℕ) → i < nodes_in s → put_all G Z x p (said i ∷ []) ≡ over x (at i) (node_said F (node_at s i).linked (node_at s i).index (node_at s i).item)
  unfolding put_all put_by reach_by
  one_node x p i h = rw (lt-ltb i (nodes_in s) h)

  node_puts : (q i : ℕ) → i < nodes_in s → put_all G Z (zeroed.file s (at i)) q (acts.node_acts s i) ≡ zeroed.file s (at i + node_size F)
  node_puts q i p = by (is_blank_node (node_at s i)) refl
    where
      by : (b : Bool) → is_blank_node (node_at s i) ≡ b → put_all G Z (zeroed.file s (at i)) q (acts.node_acts s i) ≡ zeroed.file s (at i + node_size F)
      by true e = rw e (none_put (zeroed.file s (at i)) q ∙ zeroed.put_none s (at i) (node_size F) (node_place_lem i p) (blank_bytes i p e))
      by false e =
          rw e
          (one_node (zeroed.file s (at i)) q i p
          ∙ ap (over (zeroed.file s (at i)) (at i)) (node_bytes_lem i p)
          ∙ zeroed.put_next s (at i) (node_size F) (node_place_lem i p))

  node_reaches : (q i : ℕ) → reach_all Z q (acts.node_acts s i) ≡ q
  unfolding reach_all reach_by
  node_reaches q i = by (is_blank_node (node_at s i)) refl
    where
      by : (b : Bool) → is_blank_node (node_at s i) ≡ b → reach_all Z q (acts.node_acts s i) ≡ q
      by true e = rw e refl
      by false e = rw e refl

  nodes_reach : (q m : ℕ) → reach_all Z q (joined (acts.node_acts s) m) ≡ q
  nodes_reach q m = reach_joined Z q (acts.node_acts s) m (node_reaches q)

  nodes_put : (q m : ℕ) → m ≤ nodes_in s → put_all G Z (zeroed.file s (at 0)) q (joined (acts.node_acts s) m) ≡ zeroed.file s (at m)
  unfolding joined put_all
  nodes_put q zero p = refl
  nodes_put q (suc m) p =
      let e : at m + node_size F ≡ at (suc m) = omega (arith, forms.place_next G m, ap (node_place G) (add-one m)) in
      put_also G Z (zeroed.file s (at 0)) q (joined (acts.node_acts s) m) (acts.node_acts s m)
      ∙ ap₂ (λ x z. put_all G Z x z (acts.node_acts s m)) (nodes_put q m (omega arith)) (nodes_reach q m)
      ∙ node_puts q m (omega arith)
      ∙ ap (zeroed.file s) e

  -- ---- events

  abbrev place : ℕ → ℕ
  place j = at (nodes_in s) + j * 6

  event_six : (j : ℕ) → j < count_in s → (event_in s j).kind % 256 ∷ (event_in s j).number % 256 ∷ le4 (event_in s j).item ≡ take 6 (drop (place j) s)
  event_six j p =
      let e : event_place (schedule_shape s) j ≡ place j = omega (arith, forms.size_at G) in
      six s (event_place (schedule_shape s) j) bs (omega (arith, size, e)) ∙ ap (λ q. take 6 (drop q s)) e

  abbrev six_of : Event → List ℕ
  six_of e = e.kind % 256 ∷ e.number % 256 ∷ le4 e.item

  -- a run's bytes
  run_bytes : (j d : ℕ) → j + d ≤ run_end s j → j < count_in s → times d (six_of (event_in s j)) ≡ take (d * 6) (drop (place j) s)
  unfolding times
  run_bytes j d h p =
      tabs.joined_same (λ i. six_of (event_in s j)) (λ i. take 6 (drop (i * 6) (drop (place j) s))) d
      (λ i q.
      let e : place (j + i) ≡ place j + i * 6 = omega arith in
      ap six_of (sym (runs.run_same s j i (omega arith)))
      ∙ event_six (j + i) (omega (arith, runs.run_le s j p))
      ∙ ap (λ n. take 6 (drop n s)) e
      ∙ ap (take 6) (sym (drop-drop (i * 6) (place j) s)))
      ∙ tabs.joined_parts (drop (place j) s) 6 d

  one_put : (x : List ℕ) (q a b c d : ℕ) → q + d * 6 ≤ Z → put_all G Z x q (line_is.Events a b c d ∷ []) ≡ over x q (times d (a % 256 ∷ b % 256 ∷ le4 c))
  unfolding put_all put_by reach_by
  one_put x q a b c d h = rw (le-leb (q + d * 6) Z h)

  one_reach : (q a b c d : ℕ) → q + d * 6 ≤ Z → reach_all Z q (line_is.Events a b c d ∷ []) ≡ q + d * 6
  unfolding reach_all reach_by
  one_reach q a b c d h = rw (le-leb (q + d * 6) Z h)

  none_reach : (q : ℕ) → reach_all Z q [] ≡ q
  unfolding reach_all
  none_reach q = refl

  event_puts : (j : ℕ) → j < count_in s
      → put_all G Z (zeroed.file s (place (runs.upto s j))) (place (runs.upto s j)) (acts.event_acts s j) ≡ zeroed.file s (place (runs.upto s (suc j)))
  event_puts j p = by (follows s j) refl
    where
      by : (b : Bool) → follows s j ≡ b
          → put_all G Z (zeroed.file s (place (runs.upto s j))) (place (runs.upto s j)) (acts.event_acts s j) ≡ zeroed.file s (place (runs.upto s (suc j)))
      by true e =
          ap (put_all G Z (zeroed.file s (place (runs.upto s j))) (place (runs.upto s j))) (saying.joins s bs h j e)
          ∙ none_put (zeroed.file s (place (runs.upto s j))) (place (runs.upto s j))
          ∙ ap (λ u. zeroed.file s (place u)) (runs.upto_follows s j p e ∙ sym (saying.next s bs h j p))
      by false e =
          let g = runs.run_ge s j in
          let l = runs.run_le s j p in
          let d : place j + (run_end s j - j) * 6 ≡ place (runs.upto s (suc j)) = omega (arith, saying.next s bs h j p, g) in
          ap (λ u. put_all G Z (zeroed.file s (place u)) (place u) (acts.event_acts s j)) (runs.upto_leads s j p e)
          ∙ ap (put_all G Z (zeroed.file s (place j)) (place j)) (saying.leads s bs h j e)
          ∙ one_put (zeroed.file s (place j)) (place j) (event_in s j).kind (event_in s j).number (event_in s j).item (run_end s j - j) (omega (arith, g, l))
          ∙ ap (over (zeroed.file s (place j)) (place j)) (run_bytes j (run_end s j - j) (omega (arith, g)) p)
          ∙ zeroed.put_next s (place j) ((run_end s j - j) * 6) (omega (arith, size, g, l))
          ∙ ap (zeroed.file s) d

  event_reaches : (j : ℕ) → j < count_in s → reach_all Z (place (runs.upto s j)) (acts.event_acts s j) ≡ place (runs.upto s (suc j))
  event_reaches j p = by (follows s j) refl
    where
      by : (b : Bool) → follows s j ≡ b → reach_all Z (place (runs.upto s j)) (acts.event_acts s j) ≡ place (runs.upto s (suc j))
      by true e =
          ap (reach_all Z (place (runs.upto s j))) (saying.joins s bs h j e) ∙ none_reach (place (runs.upto s j))
          ∙ ap place (runs.upto_follows s j p e ∙ sym (saying.next s bs h j p))
      by false e =
          let d : place j + (run_end s j - j) * 6 ≡ place (runs.upto s (suc j)) = omega (arith, saying.next s bs h j p, runs.run_ge s j) in
          ap (λ u. reach_all Z (place u) (acts.event_acts s j)) (runs.upto_leads s j p e)
          ∙ ap (reach_all Z (place j)) (saying.leads s bs h j e)
          ∙ one_reach (place j) (event_in s j).kind (event_in s j).number (event_in s j).item (run_end s j - j) (omega (arith, runs.run_ge s j, runs.run_le s j p))
          ∙ d

  start : at (nodes_in s) ≡ place (runs.upto s 0)
  start = omega (arith, runs.upto_zero s)

  events_reach : (m : ℕ) → m ≤ count_in s → reach_all Z (at (nodes_in s)) (joined (acts.event_acts s) m) ≡ place (runs.upto s m)
  unfolding joined reach_all
  events_reach zero p = start
  events_reach (suc m) p =
      reach_also Z (at (nodes_in s)) (joined (acts.event_acts s) m) (acts.event_acts s m)
      ∙ ap (λ z. reach_all Z z (acts.event_acts s m)) (events_reach m (omega arith))
      ∙ event_reaches m (omega arith)

  events_put : (m : ℕ) → m ≤ count_in s
      → put_all G Z (zeroed.file s (at (nodes_in s))) (at (nodes_in s)) (joined (acts.event_acts s) m) ≡ zeroed.file s (place (runs.upto s m))
  unfolding joined put_all
  events_put zero p = ap (zeroed.file s) start
  events_put (suc m) p =
      put_also G Z (zeroed.file s (at (nodes_in s))) (at (nodes_in s)) (joined (acts.event_acts s) m) (acts.event_acts s m)
      ∙ ap₂ (λ x z. put_all G Z x z (acts.event_acts s m)) (events_put m (omega arith)) (events_reach m (omega arith))
      ∙ event_puts m (omega arith)

  last_puts : (x : List ℕ) (q : ℕ) → put_all G Z x q (line_is.Nothing ∷ []) ≡ x
  unfolding put_all put_by reach_by
  last_puts x q = refl

  all_there : zeroed.file s (place (count_in s)) ≡ s
  all_there =
      let e : length s - place (count_in s) ≡ 0 = omega (arith, size) in
      ap₂ (λ a n. a ++ zeroed.zero n) (take_all (place (count_in s)) s (omega (arith, size))) e ∙ nothing s
    where
      nothing : (l : List ℕ) → l ++ zeroed.zero 0 ≡ l
      nothing [] = refl
      nothing (x ∷ l) = ap (λ z. x ∷ z) (nothing l)

  -- the words of a schedule that is taken up to its events, read, are that schedule
  pub words_back : file_of (words_of s) ≡ s
  unfolding file_of
  words_back =
      let a = acts.open_acts s in
      let d = joined (acts.head_acts s) (heads_in s) in
      let b = joined (acts.node_acts s) (nodes_in s) in
      let c = joined (acts.event_acts s) (count_in s) in
      let z = line_is.Nothing ∷ [] in
      let p = at (nodes_in s) in
      let f = zeroed.file s (opening.first s bs h) in
      let rd : reach_all Z p (a ++ d) ≡ p = reach_also Z p a d ∙ ap (λ q. reach_all Z q d) (opening.open_reach s bs h p) ∙ reach_joined Z p (acts.head_acts s) (heads_in s) (opening.head_reach s bs h p) in
      let r : reach_all Z p (a ++ d ++ b) ≡ p = reach_also Z p (a ++ d) b ∙ ap (λ q. reach_all Z q b) rd ∙ nodes_reach p (nodes_in s) in
      let ad : put_all G Z f p (a ++ d) ≡ zeroed.file s (at 0) =
      put_also G Z f p a d ∙ ap₂ (λ x q. put_all G Z x q d) (opening.open_put s bs h f p) (opening.open_reach s bs h p) ∙ opening.heads_put s bs h p (heads_in s) (omega arith) ∙ ap (zeroed.file s) (opening.lines_end s bs h) in
      let ab : put_all G Z f p (a ++ d ++ b) ≡ zeroed.file s p =
      put_also G Z f p (a ++ d) b ∙ ap₂ (λ x q. put_all G Z x q b) ad rd ∙ nodes_put p (nodes_in s) (omega arith) in
      let abc : put_all G Z f p (a ++ d ++ b ++ c) ≡ s =
      put_also G Z f p (a ++ d ++ b) c ∙ ap₂ (λ x q. put_all G Z x q c) ab r ∙ events_put (count_in s) (omega arith)
      ∙ ap (λ u. zeroed.file s (place u)) (runs.upto_all s) ∙ all_there in
      ap (λ (v : Survey). put_all (said_shape v) (size_of v) (blank_file v) (events_place v) (acts_of (words_of s))) (saying.words_survey s bs h)
      ∙ ap (λ (g : Shape). put_all g (events_start g + count_in s * 6) (blank_file (saying.surveys s bs h (count_in s))) (events_start g) (acts_of (words_of s))) (opening.shape_said s bs h (count_in s))
      ∙ ap₂ (λ x l. put_all G Z x p l) (opening.blank_there s bs h) (acts.words_acts s bs (saying.heads_few s bs h) (saying.few s bs h) taken.count)
      ∙ put_also G Z f p (a ++ d ++ b ++ c) z
      ∙ last_puts (put_all G Z f p (a ++ d ++ b ++ c)) (reach_all Z p (a ++ d ++ b ++ c))
      ∙ abc

  -- and they are taken, where there is room for it
  pub words_taken : (room : ℕ) → length s ≤ room → read_answer (words_of s) room ≡ Taken
  unfolding read_answer
  words_taken room q =
      let e = ap (λ (g : Shape). events_start g) (opening.shape_said s bs h (count_in s)) in
      rw (saying.words_survey s bs h) (rw (le-ltb room (size_of (saying.surveys s bs h (count_in s))) (omega (arith, size, e))))

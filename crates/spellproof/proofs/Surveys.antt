-- The words of a schedule, line after line: what they say together is what the schedule holds, with no fault.
use Prim.Native.Nat.{ℕ, zero, suc, ◌+◌, ◌-◌, ◌*◌, ◌%◌, ◌≤◌, ◌<◌}
use mathlib.Core.Path.{◌≡◌, refl, sym, ap, ◌∙◌}
use mathlib.Core.Bool.{Bool, true, false}
use mathlib.Core.List.{List, [], ◌∷◌, ◌++◌}
use native.Mathlib.Omega.{arith}
use native.Mathlib.Nat.{add-zero}
use native.Mathlib.Numerals.{add-one}
use borrow.Author.Tests.{eqb-true, le-ltb, lt-ltb, le-leb}
use lib.Dec.{eqb}
use lib.ListN.{length}
use Rattle.std.specs.Prelude.{Some, None}
use Rattle.lists.specs.Find.{pick}
use Rattle.lists.specs.Tab.{joined}
use Rattle.lists.proofs.BoolLaws.{no_way}
use Rattle.answer.specs.Answers.{accepted}
use Rattle.image.specs.Form.{form_of, head_count, known, per_desk, width_of, top_of, heads_at, head_lines, node_place}
use Rattle.image.specs.declared.Shape.{Shape}
use Rattle.image.proofs.ByteLaws as num
use Rattle.image.proofs.FormLaws as forms
use Rattle.image.proofs.HeadLaws as heads
use Rattle.schedule.specs.Layout.{threads_in, count_in, nodes_in, image_part, schedule_shape, event_in, schedule_answer}
use Rattle.codec.proofs.Accepted as acc
use Rattle.spelling.specs.declared.Act.{Act}
use Rattle.spelling.specs.declared.Act.TheVariants as line_is
use Rattle.spelling.specs.declared.Survey.{Survey}
use Rattle.spelling.specs.Reading.{no_survey, version_form, head_named, index_said, nodes_said, version_said, desks_said, threads_said, heads_said, events_said, behind_nodes, surveyed, survey_from, survey_of}
use Rattle.spelling.specs.Writing.{image_form, heads_in, head_at, node_at, is_blank_node, follows, run_end, words_of}
use Rattle.spelling.proofs.PlaceLaws as places
use Rattle.spellproof.proofs.Acts as acts
use Rattle.spellproof.proofs.Runs as runs

-- ---- lines one after the other

survey_also : (i : ℕ) (v : Survey) (a b : List Act) → survey_from i v (a ++ b) ≡ survey_from (i + length a) (survey_from i v a) b
unfolding survey_from
survey_also i v [] b = ap (λ k. survey_from k v b) (sym (add-zero i))
survey_also i v (x ∷ a) b =
    let e : suc i + length a ≡ i + suc (length a) = omega arith in
    survey_also (suc i) (surveyed i v x) a b ∙ ap (λ k. survey_from k (survey_from (suc i) (surveyed i v x) a) b) e

-- ---- the form and its head lines

pub desks_form : (f : ℕ) → per_desk f ≡ true → f ≡ 4
unfolding per_desk
desks_form f e = eqb-true f 4 e

pub lines_sole : (z : Shape) → known z.form ≡ true → per_desk z.form ≡ false → head_lines z ≡ 1
unfolding head_lines per_desk
lines_sole z h =
    forms.by_form (λ f. eqb f 4 ≡ false → head_count (form_of f) z.t ≡ 1) z.form h (λ q. refl) (λ q. refl) (λ q. no_way q)

-- ---- the lines before the nodes

abbrev pub begun : ℕ → ℕ → ℕ → ℕ → Survey
begun f n t c = record { fault = None; begun = true; settled = true; form = f; n = n; t = t; count = c }

abbrev shaped : ℕ → ℕ → ℕ → Shape
shaped f n t = record { form = f; n = n; t = t }

-- where there is one head index: T, the version, the index
sole_begins : (f n t x : ℕ) → known f ≡ true → per_desk f ≡ false → n ≤ 255 → x ≤ top_of f
    → survey_from 0 no_survey (line_is.Nodes n ∷ line_is.Threads t ∷ (acts.version_acts f ++ (line_is.Head None x ∷ []))) ≡ begun f n t 0
unfolding survey_from surveyed nodes_said behind_nodes threads_said heads_said head_named version_said version_form index_said top_of width_of head_lines per_desk
sole_begins f n t x h o l =
    forms.by_form
    (λ f. eqb f 4 ≡ false → x ≤ top_of f → survey_from 0 no_survey (line_is.Nodes n ∷ line_is.Threads t ∷ (acts.version_acts f ++ (line_is.Head None x ∷ []))) ≡ begun f n t 0)
    f
    h
    (λ q p. rw (le-ltb 255 n l, le-ltb 4294967295 x p))
    (λ q p. rw (le-ltb 255 n l, le-ltb 18446744073709551615 x p))
    (λ q p. no_way q)
    o

-- where each desk has one: T, and the index of each
desks_begin : (n t : ℕ) → n ≤ 255 → survey_from 0 no_survey (line_is.Nodes n ∷ line_is.Desks t ∷ []) ≡ begun 4 n t 0
unfolding survey_from surveyed nodes_said behind_nodes desks_said index_said top_of width_of
desks_begin n t l = rw (le-ltb 255 n l)

desk_says : (i n t k x : ℕ) → k < t % 256 → x ≤ top_of 4 → survey_from i (begun 4 n t 0) (line_is.Head (Some k) x ∷ []) ≡ begun 4 n t 0
unfolding survey_from surveyed behind_nodes heads_said head_named index_said top_of width_of head_lines per_desk
desk_says i n t k x l p = rw (le-ltb 4294967295 x p, lt-ltb k (t % 256) l)

desks_say : (i n t m : ℕ) (x : ℕ → ℕ) → m ≤ t % 256 → ((k : ℕ) → x k ≤ top_of 4) → survey_from i (begun 4 n t 0) (joined (λ k. line_is.Head (Some k) (x k) ∷ []) m) ≡ begun 4 n t 0
unfolding joined survey_from
desks_say i n t zero x l p = refl
desks_say i n t (suc m) x l p =
    let g : ℕ → List Act = λ k. line_is.Head (Some k) (x k) ∷ [] in
    survey_also i (begun 4 n t 0) (joined g m) (g m)
    ∙ ap (λ v. survey_from (i + length (joined g m)) v (g m)) (desks_say i n t m x (omega arith) p)
    ∙ desk_says (i + length (joined g m)) n t m (x m) (omega arith) (p m)

-- either way
heads_begin : (f n t m : ℕ) (x : ℕ → ℕ) → known f ≡ true → n ≤ 255 → t ≤ 255 → m ≡ head_lines (shaped f n t) → ((k : ℕ) → x k ≤ top_of f)
    → survey_from 0 no_survey ((line_is.Nodes n ∷ acts.thread_acts f t) ++ joined (acts.line_acts f x) m) ≡ begun f n t 0
unfolding joined
heads_begin f n t m x h l u e p = by (per_desk f) refl
  where
    by : (b : Bool) → per_desk f ≡ b
        → survey_from 0 no_survey ((line_is.Nodes n ∷ pick b (line_is.Desks t ∷ []) (line_is.Threads t ∷ []))
        ++ joined (λ k. pick b (line_is.Head (Some k) (x k) ∷ []) (acts.version_acts f ++ (line_is.Head None (x k) ∷ []))) m) ≡ begun f n t 0
    by true q =
        let d = desks_form f q in
        let a = line_is.Nodes n ∷ line_is.Desks t ∷ [] in
        let b = joined (λ k. line_is.Head (Some k) (x k) ∷ []) m in
        let c : m ≤ t % 256 = omega (arith, e, heads.lines_desks (shaped f n t) d) in
        survey_also 0 no_survey a b
        ∙ ap (λ v. survey_from (0 + length a) v b) (desks_begin n t l)
        ∙ desks_say (0 + length a) n t m x c (λ k. omega (arith, p k, ap top_of d))
        ∙ ap (λ f. begun f n t 0) (sym d)
    by false q =
        let one : m ≡ 1 = e ∙ lines_sole (shaped f n t) h q in
        ap (λ m. survey_from 0 no_survey ((line_is.Nodes n ∷ line_is.Threads t ∷ []) ++ joined (λ k. acts.version_acts f ++ (line_is.Head None (x k) ∷ [])) m)) one
        ∙ sole_begins f n t (x 0) h q l (p 0)

module _ (s : List ℕ) (bs : num.Bytes s) (h : accepted (schedule_answer s) ≡ true) where
  abbrev pub taken : acc.ScheduleTaken s
  taken = acc.schedule_taken s h

  pub few : nodes_in s ≤ 64
  few = acc.nodes_most (nodes_in s) taken.part.nodes

  -- the image's form
  abbrev pub F : ℕ
  F = image_form s

  pub known_form : known F ≡ true
  known_form = taken.part.mark

  pub heads_few : heads_in s ≤ 8
  heads_few = places.heads_few s taken.threads

  index_fits_lem : (i : ℕ) → (node_at s i).index ≤ top_of F
  index_fits_lem i = acts.index_small F (image_part s) (node_place (schedule_shape s) i + 1) (acts.part_bytes s bs)

  head_fits_lem : (k : ℕ) → head_at s k ≤ top_of F
  unfolding head_at
  head_fits_lem k = acts.index_small F (image_part s) (heads_at F + k * width_of F) (acts.part_bytes s bs)

  -- what the lines up to the events say, and c events
  abbrev pub surveys : ℕ → Survey
  surveys c = begun F (nodes_in s) (threads_in s) c

  heads_say : survey_from 0 no_survey (acts.open_acts s ++ joined (acts.head_acts s) (heads_in s)) ≡ surveys 0
  heads_say = heads_begin F (nodes_in s) (threads_in s) (heads_in s) (head_at s) known_form (omega (arith, few)) (omega (arith, bs 5)) refl head_fits_lem

  node_says : (k i : ℕ) → i < nodes_in s → survey_from k (surveys 0) (acts.node_acts s i) ≡ surveys 0
  unfolding survey_from surveyed behind_nodes index_said
  node_says k i p = by (is_blank_node (node_at s i)) refl
    where
      by : (b : Bool) → is_blank_node (node_at s i) ≡ b → survey_from k (surveys 0) (acts.node_acts s i) ≡ surveys 0
      by true e = rw e refl
      by false e = rw (e, le-ltb (top_of F) (node_at s i).index (index_fits_lem i), lt-ltb i (nodes_in s) p) refl

  nodes_say : (k m : ℕ) → m ≤ nodes_in s → survey_from k (surveys 0) (joined (acts.node_acts s) m) ≡ surveys 0
  unfolding joined survey_from
  nodes_say k zero p = refl
  nodes_say k (suc m) p =
      survey_also k (surveys 0) (joined (acts.node_acts s) m) (acts.node_acts s m)
      ∙ ap (λ v. survey_from (k + length (joined (acts.node_acts s) m)) v (acts.node_acts s m)) (nodes_say k m (omega arith))
      ∙ node_says (k + length (joined (acts.node_acts s) m)) m (omega arith)

  one_event : (k u d : ℕ) (a b c : ℕ) → u + d ≤ 65535 → survey_from k (surveys u) (line_is.Events a b c d ∷ []) ≡ surveys (u + d)
  unfolding survey_from surveyed behind_nodes events_said index_said
  one_event k u d a b c h = rw (le-ltb (top_of F) 0 (omega arith), le-leb (u + d) 65535 h)

  none_says : (k : ℕ) (v : Survey) → survey_from k v [] ≡ v
  unfolding survey_from
  none_says k v = refl

  pub leads : (j : ℕ) → follows s j ≡ false → acts.event_acts s j ≡ line_is.Events (event_in s j).kind (event_in s j).number (event_in s j).item (run_end s j - j) ∷ []
  leads j e = rw e

  pub joins : (j : ℕ) → follows s j ≡ true → acts.event_acts s j ≡ []
  joins j e = rw e

  pub next : (j : ℕ) → j < count_in s → runs.upto s (suc j) ≡ run_end s j
  next j p = ap (runs.upto s) (sym (add-one j)) ∙ runs.upto_next s j p

  event_says : (k j : ℕ) → j < count_in s → survey_from k (surveys (runs.upto s j)) (acts.event_acts s j) ≡ surveys (runs.upto s (suc j))
  event_says k j p = by (follows s j) refl
    where
      by : (b : Bool) → follows s j ≡ b → survey_from k (surveys (runs.upto s j)) (acts.event_acts s j) ≡ surveys (runs.upto s (suc j))
      by true e =
          ap (survey_from k (surveys (runs.upto s j))) (joins j e) ∙ none_says k (surveys (runs.upto s j))
          ∙ ap surveys (runs.upto_follows s j p e ∙ sym (next j p))
      by false e =
          let u = runs.upto_leads s j p e in
          let q : runs.upto s j + (run_end s j - j) ≡ runs.upto s (suc j) = omega (arith, u, next j p, runs.run_ge s j) in
          let l : runs.upto s j + (run_end s j - j) ≤ 65535 = omega (arith, u, runs.run_ge s j, runs.run_le s j p, taken.count) in
          ap (survey_from k (surveys (runs.upto s j))) (leads j e)
          ∙ one_event k (runs.upto s j) (run_end s j - j) (event_in s j).kind (event_in s j).number (event_in s j).item l
          ∙ ap surveys q

  events_say : (k m : ℕ) → m ≤ count_in s → survey_from k (surveys 0) (joined (acts.event_acts s) m) ≡ surveys (runs.upto s m)
  unfolding joined survey_from
  events_say k zero p = ap surveys (sym (runs.upto_zero s))
  events_say k (suc m) p =
      survey_also k (surveys 0) (joined (acts.event_acts s) m) (acts.event_acts s m)
      ∙ ap (λ v. survey_from (k + length (joined (acts.event_acts s) m)) v (acts.event_acts s m)) (events_say k m (omega arith))
      ∙ event_says (k + length (joined (acts.event_acts s) m)) m (omega arith)

  last_says : (k : ℕ) → survey_from k (surveys (count_in s)) (line_is.Nothing ∷ []) ≡ surveys (count_in s)
  unfolding survey_from surveyed
  last_says k = refl

  -- the words say the form, N, T and the event count of the schedule, with no fault
  pub words_survey : survey_of (words_of s) ≡ surveys (count_in s)
  unfolding survey_of
  words_survey =
      let a = acts.open_acts s ++ joined (acts.head_acts s) (heads_in s) in
      let b = joined (acts.node_acts s) (nodes_in s) in
      let c = joined (acts.event_acts s) (count_in s) in
      let z = line_is.Nothing ∷ [] in
      ap (survey_from 0 no_survey) (acts.words_acts s bs heads_few few taken.count)
      ∙ survey_also 0 no_survey (a ++ b ++ c) z
      ∙ ap (λ v. survey_from (0 + length (a ++ b ++ c)) v z)
      (survey_also 0 no_survey (a ++ b) c
      ∙ ap (λ v. survey_from (0 + length (a ++ b)) v c)
      (survey_also 0 no_survey a b ∙ ap (λ v. survey_from (0 + length a) v b) heads_say ∙ nodes_say (0 + length a) (nodes_in s) (omega arith))
      ∙ events_say (0 + length (a ++ b)) (count_in s) (omega arith)
      ∙ ap surveys (runs.upto_all s))
      ∙ last_says (0 + length (a ++ b ++ c))

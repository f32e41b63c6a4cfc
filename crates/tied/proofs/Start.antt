-- A start: the record and the core after it show the same.
use mathlib.Core.Path.{◌≡◌, refl, sym, ap, subst, ◌∙◌}
use mathlib.Core.Bool.{Bool, true, false, not}
use mathlib.Core.List.{List, [], ◌∷◌, ◌++◌}
use mathlib.Core.Logic.{◌≢◌, ◌⊎◌, inl, inr}
use mathlib.Core.Option.{Option, none, some}
use Prim.Native.Nat.{ℕ, zero, suc, ◌+◌, ◌-◌, ◌^◌, ◌≤◌, ◌<◌}
use native.Mathlib.Omega.{arith}
use lib.Pow.{pow_pos, pow_mono}
use native.Mathlib.Decide.{ℕ_discrete}
use lib.Dec.{eqb, eqb_refl, ltb}
use lib.ListN.{get_or, replicate, get_or-replicate}
use Rattle.lists.specs.Find.{pick, both}
use Rattle.lists.specs.Word.{has, word_of}
use Rattle.lists.proofs.BoolLaws.{no_way}
use Rattle.lists.proofs.TabLaws.{front_at, front_size}
use Rattle.image.specs.declared.Content.{Content}
use Rattle.image.specs.declared.Image.{Image}
use Rattle.image.specs.Layout.{content_at, no_content, no_contents, image_shape, head_in, heads_of}
use Rattle.image.proofs.HeadLaws.{heads_at_lem, heads_length, head_within}
use Rattle.image.specs.Recovered.{head_of, recovered_at, dummy_of}
use Rattle.image.specs.Form.{top_of, per_desk, head_lines}
use Rattle.machine.specs.Record.{zero_node, zero_thread, blank_nodes, idle_thread, idle_threads, content_of}
use Rattle.machine.specs.Line.{head_content}
use Rattle.machine.specs.declared.Line.{Line}
use Rattle.machine.specs.declared.Line.TheVariants.{OfHead as of_head, OfNode as of_node}
use Rattle.machine.specs.Start as machine
use Rattle.machine.specs.Start.{start_node, spare, start_with, start_of, queue_of, behind}
use Rattle.machine.proofs.FlushLaws.{none_set, none_flushed}
use Rattle.model.specs.Basics.{sel, bothb, upd}
use Rattle.model.specs.Choice.{lowest}
use Rattle.model.specs.Conf.{line_ix}
use Rattle.model.specs.Core as core
use Rattle.model.specs.Recovery as recovery
use Rattle.model.specs.Recovery.{start, start', link_up}
use Rattle.model.proofs.Basics.{upd_at, upd_other, eq_no, true→eq, yes_of}
use Rattle.tied.specs.Shown.{shown_content, link_if, link_of, members, engine_if, conf_of}
use Rattle.tied.proofs.Words.{has_word, word_fits, members_zero}
use Rattle.tied.proofs.Engines.{lines_shared}
use Rattle.tied.proofs.Relation.{Link, step_in_lem, NodeAt, Tied}
use Rattle.tied.proofs.Changes.{some_link}
use Rattle.tied.proofs.Images.{ImageT, Under, under_risen, lines_at, eight_lines, head_is, head_one, rec_is, nodes_is, dummy_is, queue_is}

-- ---- links and the last node

eq_turn : (a b : ℕ) → eqb a b ≡ eqb b a
eq_turn a b = by (ℕ_discrete a b)
  where
    by : Dec (a ≡ b) → eqb a b ≡ eqb b a
    by (yes e) = ap (λ x. eqb x b) e ∙ ap (eqb b) (sym e)
    by (no ne) = eq_no a b ne ∙ sym (eq_no b a (λ e. ne (sym e)))

link_up_lem : (n d : ℕ) (q : List ℕ) (i : ℕ) → n ≤ 64 → Under n q → link_up d q i ≡ link_of (behind (d ∷ q) i)
unfolding link_up behind upd
link_up_lem n d [] i h u = refl
link_up_lem n d (k ∷ q) i h u = by (eqb i d) (eqb d i) (eq_turn i d) (link_up_lem n k q i h u.1)
  where
    by : (a b : Bool) → a ≡ b → link_up k q i ≡ link_of (behind (k ∷ q) i)
        → sel a (some k) (link_up k q i) ≡ link_of (elim b as (λ _. ℕ) [ true ↦ k | false ↦ behind (k ∷ q) i ])
    by true true e r = sym (some_link n k h u.0)
    by true false e r = no_way e
    by false true e r = no_way (sym e)
    by false false e r = r

link_in : (n d : ℕ) (q : List ℕ) (i : ℕ) → Under n q → Link n (behind (d ∷ q) i)
unfolding behind
link_in n d [] i u = inr refl
link_in n d (k ∷ q) i u = by (eqb d i) (link_in n k q i u.1)
  where
    by : (b : Bool) → Link n (behind (k ∷ q) i) → Link n (elim b as (λ _. ℕ) [ true ↦ k | false ↦ behind (k ∷ q) i ])
    by true r = inl u.0
    by false r = r

last_is : (d : ℕ) (q : List ℕ) → recovery.last_of d q ≡ machine.last_of d q
unfolding recovery.last_of machine.last_of
last_is d [] = refl
last_is d (k ∷ q) = last_is k q

-- ---- the start

-- what the lines hold persisted
abbrev pub image_line : Image → Line → Content
image_line g (of_head k) = head_content (head_in g k)
image_line g (of_node i) = content_at g.nodes i

module _ (g : Image) (t : ℕ) (G : recovery.Image) (r : ImageT g t G) where
  node_at : (d : ℕ) → Under g.n (queue_of g) → (i : ℕ) → i < g.n
      → NodeAt (top_of g.form) g.n t (start_node g d (queue_of g) i) (upd G.at d (core.with_index (G.at d) (recovery.head_of G)) i) (link_up d (queue_of g) i) []
  node_at d u i h = record {
    content = by (ℕ_discrete i d);
    link = link_up_lem g.n d (queue_of g) i r.sizes.nodes_hi u;
    waits = sym (members_zero t);
    flag = r.flag i h;
    reach = link_in g.n d (queue_of g) i u;
    few = pow_pos t;
    narrow = low (eqb i d);
  }
    where
      by : Dec (i ≡ d) → upd G.at d (core.with_index (G.at d) (recovery.head_of G)) i ≡ shown_content (content_of (start_node g d (queue_of g) i))
      by (yes e) = upd_at G.at d _ e ∙ ap (λ x. core.with_index (G.at x) (recovery.head_of G)) (sym e) ∙ ap (core.with_index (G.at i)) (head_is g t G r)
          ∙ ap (λ z. core.with_index z (head_of g)) (r.at i h)
          ∙ ap (λ b. shown_content (record { linked = (content_at g.nodes i).linked; index = pick b (head_of g) (content_at g.nodes i).index; item = (content_at g.nodes i).item })) (sym (ap (λ y. eqb i y) (sym e) ∙ yes_of (eqb i i) (eqb_refl i)))
      by (no ne) = upd_other G.at d _ ne ∙ r.at i h
          ∙ ap (λ b. shown_content (record { linked = (content_at g.nodes i).linked; index = pick b (head_of g) (content_at g.nodes i).index; item = (content_at g.nodes i).item })) (sym (eq_no i d ne))

      low : (b : Bool) → pick b (head_of g) (content_at g.nodes i).index ≤ top_of g.form
      low true = head_within g (top_of g.form) r.narrow_head
      low false = r.narrow i h

  spare_is : (d i : ℕ) → i < g.n
      → bothb (ltb i G.conf.nodes) (bothb (not (eqb i d)) (not (recovery.recovered (recovery.head_of G) (G.at i)))) ≡ has (word_of (spare g d) g.n) i
  spare_is d i h =
      ap (λ n. bothb (ltb i n) (bothb (not (eqb i d)) (not (recovery.recovered (recovery.head_of G) (G.at i))))) (nodes_is g t G r)
      ∙ ap (λ b. bothb (ltb i g.n) (bothb (not (eqb i d)) (not b))) (rec_is g t G r i h)
      ∙ ap (bothb (ltb i g.n)) (same (not (eqb i d)) (not (recovered_at g i)))
      ∙ sym (has_word (spare g d) g.n i)
    where
      same : (a b : Bool) → bothb a b ≡ both a b
      same true b = refl
      same false b = refl

  start_with_t : (d : ℕ) → Tied (image_line g) (start_with g t d (queue_of g)) (start' G d (queue_of g))
  unfolding start_with start' blank_nodes no_contents idle_threads
  start_with_t d =
      let u : Under g.n (queue_of g) = under_risen g g.n g.n (omega arith) in
      record {
        conf = r.conf;
        sizes = r.sizes;
        hnode = refl;
        heads = shows (per_desk g.form) refl;
        narrow = λ k h. let z = below k h in subst (λ x. x ≤ top_of g.form) (sym (stored k z)) (r.narrow_head k z);
        eight = heads_length (image_shape g) (head_in g) (eight_lines g t G r);
        flushes = record {
          flag = λ k h. subst (λ (x : Content). x.linked ≤ 1) (sym (none_flushed k)) (omega arith);
          narrow = λ k h. subst (λ (x : Content). x.index ≤ top_of g.form) (sym (none_flushed k)) (omega arith);
          late = λ k h. subst (λ x. x < 2 ^ t) (sym (none_set 8 k)) some_set;
          heads = λ k h. subst (λ x. x < 2 ^ t) (sym (none_set 8 k)) some_set;
          nodes = λ i h. subst (λ x. x < 2 ^ t) (sym (none_set 64 i)) some_set;
        };
        tail = last_is d (queue_of g);
        last = refl;
        nodes = record {
          size = front_size (start_node g d (queue_of g)) g.n (replicate 64 _) r.sizes.nodes_hi;
          at = λ i h. subst (λ v. NodeAt (top_of g.form) g.n t v (upd G.at d (core.with_index (G.at d) (recovery.head_of G)) i) (link_up d (queue_of g) i) [])
              (sym (front_at (start_node g d (queue_of g)) g.n (replicate 64 _) i zero_node h)) (node_at d u i h);
        };
        free = record { bits = λ i h. spare_is d i h; fits = word_fits (spare g d) g.n };
        threads = record {
          size = refl;
          at = λ k h. rw (get_or-replicate 8 k (idle_thread 255) zero_thread (omega (arith, r.sizes.threads_hi))) (record {
            seen = 0;
            own = λ e. refl;
            stage = refl;
            holds = refl;
            regs = record { step = step_in_lem g.form 0 (omega arith); node = inr refl; tail = inr refl; head = inr refl; next = inr refl; held = inr refl; index = omega arith };
          });
        };
        kept = record {
          size = front_size (content_at g.nodes) g.n (replicate 64 no_content) r.sizes.nodes_hi;
          heads = heads_length (image_shape g) (head_in g) (eight_lines g t G r);
          head = λ k h. ap head_content (sym (stored k (below k h)));
          at = λ i h. sym (front_at (content_at g.nodes) g.n (replicate 64 no_content) i no_content h);
          flag = λ i h. r.flag i h;
          narrow_head = λ k h. r.narrow_head k (below k h);
          narrow = λ i h. r.narrow i h;
        };
      }
    where
      some_set : 0 < 2 ^ t
      some_set = pow_mono {i = 0} {j = t} (omega arith)

      below : (k : ℕ) → k < head_lines (record { form = g.form; n = g.n; t = t }) → k < head_lines (image_shape g)
      below k h = subst (λ x. k < x) (lines_at g t G r) h

      stored : (k : ℕ) → k < head_lines (image_shape g) → get_or (heads_of (image_shape g) (head_in g)) k 0 ≡ head_in g k
      stored k h = heads_at_lem (image_shape g) (head_in g) k h

      -- "Recovery takes the largest thread index and alters none"
      shows : (b : Bool) → per_desk g.form ≡ b → (k : ℕ) → k < head_lines (record { form = g.form; n = g.n; t = t })
          → line_ix (engine_if b) (recovery.head_of G) G.heads k ≡ get_or (heads_of (image_shape g) (head_in g)) k 0
      shows true e k h = let z = below k h in r.head k z ∙ sym (stored k z)
      shows false e zero h = head_one g t G r (lines_shared (image_shape g) r.sizes.form e) ∙ sym (stored 0 (below 0 h))
      shows false e (suc k) h = absurd (omega (arith, below (suc k) h, lines_shared (image_shape g) r.sizes.form e))

  -- a start from an image with a dummy
  pub start_t : dummy_of g < g.n → Tied (image_line g) (start_of g t) (start G)
  start_t h = subst (λ q. Tied (image_line g) (start_of g t) (start' G (recovery.or_zero (lowest G.conf.nodes 0 (λ n. not (recovery.recovered (recovery.head_of G) (G.at n))))) q))
      (sym (queue_is g t G r))
      (subst (λ d. Tied (image_line g) (start_of g t) (start' G d (queue_of g))) (sym (dummy_is g t G r h)) (start_with_t (dummy_of g)))

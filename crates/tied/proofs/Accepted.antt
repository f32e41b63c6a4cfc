-- What an accepted start says of its image; and that an image fit for the abstract machine is refused by neither 7 nor 8.
use mathlib.Core.Path.{◌≡◌, refl, sym, ap, subst, ◌∙◌}
use mathlib.Core.Bool.{Bool, true, false, not}
use mathlib.Core.Logic.{◌≢◌}
use mathlib.Core.Option.{Option, none, some}
use Prim.Native.Nat.{ℕ, ◌+◌, ◌≤◌, ◌<◌}
use native.Mathlib.Omega.{arith}
use native.Mathlib.Decide.{ℕ_discrete, dec_lt}
use lib.Dec.{eqb, eqb_refl, ltb}
use borrow.Author.Tests.{not-false}
use Rattle.lists.specs.Find.{least, any}
use Rattle.lists.proofs.BoolLaws.{both_true, no_way}
use Rattle.lists.proofs.FindLaws.{least_none, least_clear, least_le, any_hit, any_none}
use Rattle.answer.specs.Answers.{check, accepted, Answer, Taken, Linked, Twin, NoDummy}
use Rattle.image.specs.declared.Content.{Content}
use Rattle.image.specs.declared.Image.{Image}
use Rattle.image.specs.Layout.{content_at, image_shape}
use Rattle.image.specs.Recovered.{recovered_at, twins, has_twin, first_twin, dummy_of, first_unclear}
use Rattle.image.specs.Refusals.{agree, startable, sound}
use Rattle.image.proofs.SoundLaws.{whole_is}
use Rattle.machine.proofs.AcceptedLaws.{passed}
use Rattle.image.proofs.ShapeLaws.{nodes_range, threads_range}
use Rattle.machine.specs.Start.{start_answer}
use Rattle.model.specs.Basics.{sel}
use Rattle.model.specs.Core as core
use Rattle.model.specs.Choice.{lowest, lowest_free}
use Rattle.model.specs.Recovery as recovery
use Rattle.model.specs.Demand3.{Fit, Tidy}
use Rattle.model.proofs.Basics.{yes_of, not_true, true→eq, eq_no, lt_true, lt_no}
use Rattle.tied.specs.Shown.{shown_content, image_shown, Narrow}
use Rattle.tied.proofs.Searches.{lowest_least}
use Rattle.tied.proofs.Relation.{Sizes}
use Rattle.tied.proofs.Images.{ImageT, lines_is, first_line, rec_is, nodes_is, low_is}

-- ---- tests

pub pass : (b : Bool) (w rest : Answer) → accepted w ≡ false → accepted (check b w rest) ≡ true → (b ≡ false) × (accepted rest ≡ true)
pass true w rest n e = no_way (sym e ∙ n)
pass false w rest n e = (refl, e)

pub ge_of : (a b : ℕ) → ltb a b ≡ false → b ≤ a
ge_of a b e = by (dec_lt a b)
  where
    by : Dec (a < b) → b ≤ a
    by (yes h) = no_way (sym (lt_true a b h) ∙ e)
    by (no h) = omega arith

-- ---- what a start asks

pub record Sound (g : Image) (t : ℕ) : Type 0 where
  pub sizes : Sizes g.form g.n t
  pub agrees : agree t (image_shape g) ≡ true
  pub flags : (i : ℕ) → i < g.n → (content_at g.nodes i).linked ≤ 1
  pub apart : (i : ℕ) → i < g.n → has_twin g i ≡ false
  pub dummy : dummy_of g < g.n

clear_least : (f : ℕ → Bool) (n : ℕ) → ltb (least f n 0) n ≡ false → (i : ℕ) → i < n → f i ≡ false
clear_least f n e i h = least_clear f n 0 (omega (arith, ge_of (least f n 0) n e)) i (omega arith) (omega arith)

startable_is : (g : Image) (rest : Answer) → accepted (startable g rest) ≡ true → ((i : ℕ) → i < g.n → has_twin g i ≡ false) × (dummy_of g < g.n) × (accepted rest ≡ true)
unfolding startable first_twin dummy_of
startable_is g rest e =
    let a = pass _ (Twin (first_twin g)) _ refl e in
    let b = pass (eqb (dummy_of g) g.n) NoDummy rest refl a.1 in
    (clear_least (has_twin g) g.n a.0, by (ℕ_discrete (dummy_of g) g.n) b.0 (least_le (λ i. not (recovered_at g i)) g.n 0), b.1)
  where
    by : Dec (dummy_of g ≡ g.n) → eqb (dummy_of g) g.n ≡ false → dummy_of g ≤ 0 + g.n → dummy_of g < g.n
    by (yes z) f l = no_way (sym (ap (λ y. eqb y g.n) z ∙ yes_of (eqb g.n g.n) (eqb_refl g.n)) ∙ f)
    by (no z) f l = omega arith

pub sound_is : (g : Image) (t : ℕ) → accepted (start_answer g t) ≡ true → Sound g t
unfolding sound first_unclear
sound_is g t e =
    let p = passed g t e in
    let c = pass (ltb (first_unclear g) g.n) (Linked (first_unclear g)) _ refl (whole_is g p.2).sound in
    let s = startable_is g Taken c.1 in
    let x = threads_range t p.0 in
    let y = nodes_range g.n p.1.nodes in
    record {
      sizes = record { form = p.1.form; nodes_lo = y.0; nodes_hi = y.1; threads_lo = x.0; threads_hi = x.1 };
      agrees = p.1.agrees;
      flags = λ i h. ge_of 1 (content_at g.nodes i).linked (clear_least (λ i. ltb 1 (content_at g.nodes i).linked) g.n c.0 i h);
      apart = s.0;
      dummy = s.1;
    }

-- ---- the image of an accepted start, for the abstract machine

module _ (g : Image) (t : ℕ) (s : Sound g t) (w : Narrow g) where
  pub shown_t : ImageT g t (image_shown g t)
  unfolding image_shown
  shown_t = record {
    conf = refl;
    sizes = s.sizes;
    agrees = s.agrees;
    head = λ k h. refl;
    at = λ i h. ap (λ b. sel b (shown_content (content_at g.nodes i)) core.zero_node) (lt_true i g.n h);
    flag = s.flags;
    narrow_head = w.head;
    narrow = w.at;
  }

  pub tidy : Tidy (image_shown g t)
  unfolding image_shown
  tidy i h = ap (λ b. (sel b (shown_content (content_at g.nodes i)) core.zero_node).linked) (lt_no i g.n h)

-- ---- fit, both ways

module _ (g : Image) (t : ℕ) (G : recovery.Image) (r : ImageT g t G) where
  index_is : (i : ℕ) → i < g.n → (G.at i).index ≡ (content_at g.nodes i).index
  index_is i h = ap (λ z. z.index) (r.at i h)

  twin_yes : (i j : ℕ) → recovered_at g i ≡ true → recovered_at g j ≡ true → (content_at g.nodes i).index ≡ (content_at g.nodes j).index → twins g i j ≡ true
  unfolding twins
  twin_yes i j a b e = rw (a, b, e) (yes_of _ (eqb_refl (content_at g.nodes j).index))

  twin_is : (i j : ℕ) → twins g i j ≡ true → (recovered_at g i ≡ true) × (recovered_at g j ≡ true) × ((content_at g.nodes i).index ≡ (content_at g.nodes j).index)
  unfolding twins
  twin_is i j e = let a = both_true _ _ e in let b = both_true _ _ a.1 in (a.0, b.0, true→eq _ _ b.1)

  pub fit_of : Sound g t → Fit G
  unfolding has_twin
  fit_of s = record {
    lined = subst (λ h. 0 < h) (sym (lines_is g t G r)) (first_line g t G r);
    twins = λ i j hi hj ri rj e.
        let hn : i < g.n = omega (arith, nodes_is g t G r) in
        let hm : j < g.n = omega arith in
        no_way (sym (any_hit (twins g i) i j hj (twin_yes i j (sym (rec_is g t G r i hn) ∙ ri) (sym (rec_is g t G r j hm) ∙ rj) (sym (index_is i hn) ∙ e ∙ index_is j hm))) ∙ s.apart i hn);
    spare = (
      dummy_of g,
      omega (arith, nodes_is g t G r, s.dummy),
      not_true _ (lowest_free G.conf.nodes 0 (λ n. not (recovery.recovered (recovery.head_of G) (G.at n))) (dummy_of g)
          (low_is g t G r ∙ ap (λ b. sel b (some (dummy_of g)) none) (lt_true (dummy_of g) g.n s.dummy))),
    );
  }

  fit_apart : Fit G → (i : ℕ) → i < g.n → has_twin g i ≡ false
  unfolding has_twin
  fit_apart f i h = any_none (twins g i) i (λ j hj. by j hj (twins g i j) refl)
    where
      by : (j : ℕ) → j < i → (b : Bool) → twins g i j ≡ b → twins g i j ≡ false
      by j hj false e = e
      by j hj true e =
          let a = twin_is i j e in
          let hm : j < g.n = omega arith in
          absurd (f.twins i j (omega (arith, nodes_is g t G r)) hj (rec_is g t G r i h ∙ a.0) (rec_is g t G r j hm ∙ a.1) (index_is i h ∙ a.2 ∙ sym (index_is j hm)))

  pub fit_dummy : Fit G → dummy_of g < g.n
  unfolding dummy_of
  fit_dummy f = by (dec_lt (dummy_of g) g.n)
    where
      by : Dec (dummy_of g < g.n) → dummy_of g < g.n
      by (yes h) = h
      by (no h) =
          let n = f.spare.0 in
          let hn : f.spare.0 < g.n = omega (arith, f.spare.1, nodes_is g t G r) in
          let c = least_clear (λ i. not (recovered_at g i)) g.n 0 (omega arith) f.spare.0 (omega arith) (omega arith) in
          no_way (sym (not-false _ c) ∙ sym (rec_is g t G r f.spare.0 hn) ∙ f.spare.2)

  -- neither 7 nor 8
  pub startable_yes : Fit G → (rest : Answer) → startable g rest ≡ rest
  unfolding startable first_twin
  startable_yes f rest =
      let z : least (has_twin g) g.n 0 ≡ 0 + g.n = least_none (has_twin g) g.n 0 (λ i a b. fit_apart f i (omega arith)) in
      rw (lt_no (least (has_twin g) g.n 0) g.n (omega arith), eq_no (dummy_of g) g.n (λ e. omega (arith, fit_dummy f))) refl

-- the dummy is not recovered
pub dummy_free : (g : Image) → dummy_of g < g.n → recovered_at g (dummy_of g) ≡ false
unfolding dummy_of
dummy_free g h = not_true _ (lowest_free g.n 0 (λ i. not (recovered_at g i)) (dummy_of g)
    (lowest_least (λ i. not (recovered_at g i)) g.n 0 ∙ ap (λ b. sel b (some (dummy_of g)) none) (lt_true (dummy_of g) (0 + g.n) (omega arith))))

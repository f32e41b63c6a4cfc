-- The mended image is accepted; an accepted image comes back the same; what is listed is what changed. Assumes nothing.
use Prim.Native.Nat.{ℕ, zero, suc, ◌≤◌, ◌<◌}
use mathlib.Core.Path.{◌≡◌, refl, sym, ap, ◌∙◌}
use mathlib.Core.Bool.{Bool, true, false, not}
use native.Mathlib.Omega.{arith}
use lib.ListN.{length, drop}
use lib.Dec.{eqb, ltb}
use borrow.Author.Tests.{eqb-true, eqb-false, ltb-true, ltb-false, eq-eqb, ne_eqb, le-ltb, not-false, not-true}
use Rattle.lists.specs.Find.{pick, least}
use Rattle.lists.proofs.BoolLaws.{false_true, both_true, both_of}
use Rattle.lists.proofs.FindLaws.{least_clear, least_found, least_le}
use Rattle.answer.specs.Answers.{check, accepted, Taken, Linked, Twin, NoDummy}
use Rattle.image.specs.Layout.{content_at}
use Rattle.image.specs.Recovered.{recovered_at, has_twin, first_twin, dummy_of, first_unclear}
use Rattle.image.specs.Refusals.{startable, sound}
use Rattle.image.specs.declared.Content.{Content}
use Rattle.image.specs.declared.Image.{Image}
use Rattle.mending.specs.Mended.{unlinked, cleared, unclear_at, bytes_mended, twins_mended, larger_at, largest_at, spare_at, spare_mended, mended, reason_at}
use Rattle.mending.proofs.ClearLaws as clear

-- ---- the largest

-- it is one of them, and none is larger
pub larger_one : (P : ℕ → Type 0) (g : Image) (r k : ℕ) → P r → P k → P (larger_at g r k)
unfolding larger_at
larger_one P g r k p q = by (ltb (content_at g.nodes r).index (content_at g.nodes k).index)
  where
    by : (b : Bool) → P (pick b k r)
    by true = q
    by false = p

pub largest_in : (g : Image) (k : ℕ) → 0 < k → largest_at g k < k
unfolding largest_at
largest_in g zero h = absurd (omega arith)
largest_in g (suc zero) h = larger_one (λ j. j < 1) g 0 0 (omega arith) (omega arith)
largest_in g (suc (suc k)) h =
    let p = largest_in g (suc k) (omega arith) in
    larger_one (λ j. j < suc (suc k)) g (largest_at g (suc k)) (suc k) (omega arith) (omega arith)

-- ---- the three steps

-- what each asks of the image that it is given, node by node
module _ (g : Image) where
  pub unclear_gone : (i : ℕ) → i < g.n → unclear_at (bytes_mended g) i ≡ false
  unfolding bytes_mended unclear_at
  unclear_gone i h = by (unclear_at g i) refl
    where
      flag : (b : Bool) → b ≡ true → (c : Content) → ltb 1 (unlinked b c).linked ≡ false
      flag true e c = refl
      flag false e c = false_true e

      by : (b : Bool) → unclear_at g i ≡ b → unclear_at (cleared (unclear_at g) g) i ≡ false
      by true e = ap (λ c. ltb 1 c.linked) (clear.cleared_at (unclear_at g) g i h) ∙ flag (unclear_at g i) e (content_at g.nodes i)
      by false e = clear.cleared_clear (unclear_at g) g i h e

  pub twin_gone : (i : ℕ) → i < g.n → has_twin (twins_mended g) i ≡ false
  unfolding twins_mended
  twin_gone i h = by (has_twin g i) refl
    where
      by : (b : Bool) → has_twin g i ≡ b → has_twin (cleared (has_twin g) g) i ≡ false
      by true e = clear.cleared_gone (has_twin g) g i h e
      by false e = clear.cleared_alone (has_twin g) g i h e

  -- every node is recovered
  pub all_recovered : eqb (dummy_of g) g.n ≡ true → (i : ℕ) → i < g.n → recovered_at g i ≡ true
  unfolding dummy_of
  all_recovered e i h = not-false (recovered_at g i) (least_clear (λ i. not (recovered_at g i)) g.n 0 (omega (arith, eqb-true (dummy_of g) g.n e)) i (omega arith) (omega arith))

  spare_there : eqb (dummy_of g) g.n ≡ true → spare_at g (largest_at g g.n) ≡ true
  unfolding spare_at
  spare_there e =
      let x = largest_at g g.n in
      both_of (eqb (dummy_of g) g.n) (eqb x x) e (eq-eqb x x refl)

  -- a node is left over: one that is not recovered, or the one whose flag is cleared
  pub spare_left : 0 < g.n → dummy_of (spare_mended g) < g.n
  unfolding spare_mended dummy_of cleared
  spare_left h = by (eqb (dummy_of g) g.n) refl
    where
      big : ℕ
      big = largest_at g g.n

      off : (i : ℕ) → recovered_at (cleared (spare_at g) g) i ≡ false → not (recovered_at (cleared (spare_at g) g) i) ≡ true
      off i e = ap not e

      by : (b : Bool) → eqb (dummy_of g) g.n ≡ b → least (λ i. not (recovered_at (cleared (spare_at g) g) i)) g.n 0 < g.n
      by true e =
          let p = largest_in g g.n h in
          clear.least_under (λ i. not (recovered_at (cleared (spare_at g) g) i)) g.n big p (off big (clear.cleared_not (spare_at g) g big p (spare_there e)))
      by false e =
          let d = least (λ i. not (recovered_at g i)) g.n 0 in
          let l = least_le (λ i. not (recovered_at g i)) g.n 0 in
          let ne = eqb-false d g.n e in
          let p : d < g.n = omega arith in
          clear.least_under (λ i. not (recovered_at (cleared (spare_at g) g) i)) g.n d p
          (off d (clear.cleared_still (spare_at g) g d p (not-true (recovered_at g d) (least_found (λ i. not (recovered_at g i)) g.n 0 (omega arith)))))

-- ---- searches that find nothing

unclear_none : (g : Image) → ((i : ℕ) → i < g.n → unclear_at g i ≡ false) → first_unclear g ≡ g.n
unfolding first_unclear unclear_at
unclear_none g h = clear.least_all (λ i. ltb 1 (content_at g.nodes i).linked) g.n h

pub twin_none : (g : Image) → ((i : ℕ) → i < g.n → has_twin g i ≡ false) → first_twin g ≡ g.n
unfolding first_twin
twin_none g h = clear.least_all (has_twin g) g.n h

-- ---- one node after one step

bytes_at : (g : Image) (i : ℕ) → i < g.n → content_at (bytes_mended g).nodes i ≡ unlinked (unclear_at g i) (content_at g.nodes i)
unfolding bytes_mended
bytes_at g i h = clear.cleared_at (unclear_at g) g i h

twins_at : (g : Image) (i : ℕ) → i < g.n → content_at (twins_mended g).nodes i ≡ unlinked (has_twin g i) (content_at g.nodes i)
unfolding twins_mended
twins_at g i h = clear.cleared_at (has_twin g) g i h

bytes_recovered : (g : Image) (i : ℕ) → i < g.n → recovered_at (bytes_mended g) i ≡ true → (unclear_at g i ≡ false) × (recovered_at g i ≡ true)
unfolding bytes_mended
bytes_recovered g i h e = clear.cleared_recovered (unclear_at g) g i h e

twins_recovered : (g : Image) (i : ℕ) → i < g.n → recovered_at (twins_mended g) i ≡ true → (has_twin g i ≡ false) × (recovered_at g i ≡ true)
unfolding twins_mended
twins_recovered g i h e = clear.cleared_recovered (has_twin g) g i h e

unclear_above : (g : Image) (i : ℕ) → unclear_at g i ≡ true → 1 < (content_at g.nodes i).linked
unfolding unclear_at
unclear_above g i e = ltb-true 1 (content_at g.nodes i).linked e

flag_set : (g : Image) (i : ℕ) → recovered_at g i ≡ true → 0 < (content_at g.nodes i).linked
flag_set g i e = omega (arith, eqb-true (content_at g.nodes i).linked 1 (clear.recovered_flag g i e))

-- the spare node is there only where every node is recovered
spare_all : (g : Image) (i : ℕ) → spare_at g i ≡ true → (eqb (dummy_of g) g.n ≡ true) × (i ≡ largest_at g g.n)
unfolding spare_at
spare_all g i e =
    let x = largest_at g g.n in
    let b = both_true (eqb (dummy_of g) g.n) (eqb i x) e in
    (b.0, eqb-true i x b.1)

-- ---- what acceptance says, node by node

-- 6, 7 and 8 passed
parts : (g : Image) → accepted (sound g Taken) ≡ true
    → ((i : ℕ) → i < g.n → unclear_at g i ≡ false) × ((i : ℕ) → i < g.n → has_twin g i ≡ false) × ((i : ℕ) → spare_at g i ≡ false)
unfolding sound startable first_unclear first_twin unclear_at spare_at
parts g h =
    let a = taken (ltb (first_unclear g) g.n) (ltb (first_twin g) g.n) (eqb (dummy_of g) g.n) h in (
      λ i p. least_clear (unclear_at g) g.n 0 (omega (arith, ltb-false (first_unclear g) g.n a.0)) i (omega arith) (omega arith),
      λ i p. least_clear (has_twin g) g.n 0 (omega (arith, ltb-false (first_twin g) g.n a.1)) i (omega arith) (omega arith),
      λ i. rw a.2,
    )
  where
    taken : (a b c : Bool) → accepted (check a (Linked (first_unclear g)) (check b (Twin (first_twin g)) (check c NoDummy Taken))) ≡ true → (a ≡ false) × (b ≡ false) × (c ≡ false)
    taken true b c e = false_true e
    taken false true c e = false_true e
    taken false false true e = false_true e
    taken false false false e = (refl, refl, refl)

bytes_none : (g : Image) → g.n ≤ length g.nodes → ((i : ℕ) → i < g.n → unclear_at g i ≡ false) → bytes_mended g ≡ g
unfolding bytes_mended
bytes_none g l h = clear.cleared_none (unclear_at g) g l h

twins_none : (g : Image) → g.n ≤ length g.nodes → ((i : ℕ) → i < g.n → has_twin g i ≡ false) → twins_mended g ≡ g
unfolding twins_mended
twins_none g l h = clear.cleared_none (has_twin g) g l h

spare_none : (g : Image) → g.n ≤ length g.nodes → ((i : ℕ) → spare_at g i ≡ false) → spare_mended g ≡ g
unfolding spare_mended
spare_none g l h = clear.cleared_none (spare_at g) g l (λ i p. h i)

-- the reason, by the three tests
abbrev why : Bool → Bool → Bool → ℕ
why a b c = pick a 6 (pick b 7 (pick c 8 0))

-- ---- the mended image

module _ (g : Image) where
  abbrev g1 : Image
  g1 = bytes_mended g

  abbrev g2 : Image
  g2 = twins_mended (bytes_mended g)

  pub size1 : (bytes_mended g).n ≡ g.n
  unfolding bytes_mended
  size1 = clear.cleared_n (unclear_at g) g

  pub size2 : (twins_mended (bytes_mended g)).n ≡ g.n
  unfolding twins_mended
  size2 = clear.cleared_n (has_twin (bytes_mended g)) (bytes_mended g) ∙ size1

  pub size3 : (mended g).n ≡ g.n
  unfolding mended spare_mended
  size3 = clear.cleared_n (spare_at (twins_mended (bytes_mended g))) (twins_mended (bytes_mended g)) ∙ size2

  mended_clear : (i : ℕ) → i < g.n → unclear_at (mended g) i ≡ false
  unfolding mended spare_mended twins_mended
  mended_clear i h =
      clear.cleared_clear (spare_at (cleared (has_twin g1) g1)) (cleared (has_twin g1) g1) i (rw size2 h)
      (clear.cleared_clear (has_twin g1) g1 i (rw size1 h) (unclear_gone g i h))

  mended_alone : (i : ℕ) → i < g.n → has_twin (mended g) i ≡ false
  unfolding mended spare_mended
  mended_alone i h = clear.cleared_alone (spare_at g2) g2 i (rw size2 h) (twin_gone g1 i (rw size1 h))

  dummy_left : 0 < g.n → dummy_of (mended g) < g2.n
  unfolding mended
  dummy_left h = spare_left g2 (rw size2 h)

  -- 6, 7 and 8 as one fact
  passed : (h : Image) (a b c : ℕ) → first_unclear h ≡ a → first_twin h ≡ b → dummy_of h ≡ c → h.n ≤ a → h.n ≤ b → c < h.n → sound h Taken ≡ Taken
  unfolding sound startable
  passed h a b c p q r x y z =
      rw (p, q, r, le-ltb a h.n x, le-ltb b h.n y, ne_eqb c h.n (omega arith))

  -- "The mended image is accepted": 6, 7 and 8 pass it
  pub mended_sound : 0 < g.n → sound (mended g) Taken ≡ Taken
  mended_sound h =
      passed (mended g) (mended g).n (mended g).n (dummy_of (mended g))
      (unclear_none (mended g) (λ i p. mended_clear i (rw size3 at p)))
      (twin_none (mended g) (λ i p. mended_alone i (rw size3 at p)))
      refl (omega arith) (omega arith) (omega (arith, dummy_left h, size2, size3))

  -- ---- what changed, and why

  mended_flag : (a b c : Bool) (v : Content)
      → unlinked c (unlinked b (unlinked a v)) ≡ unlinked (not (eqb (why a b c) 0)) v
  mended_flag true true true v = refl
  mended_flag true true false v = refl
  mended_flag true false true v = refl
  mended_flag true false false v = refl
  mended_flag false true true v = refl
  mended_flag false true false v = refl
  mended_flag false false true v = refl
  mended_flag false false false v = refl

  -- "Nothing else is touched": each node is as it was, but for its linked flag where it has a reason
  pub mended_at : (i : ℕ) → i < g.n → content_at (mended g).nodes i ≡ unlinked (not (eqb (reason_at g i) 0)) (content_at g.nodes i)
  unfolding mended spare_mended reason_at
  mended_at i h =
      clear.cleared_at (spare_at g2) g2 i (rw size2 h)
      ∙ ap (unlinked (spare_at g2 i)) (at2 ∙ ap (unlinked (has_twin g1 i)) at1)
      ∙ mended_flag (unclear_at g i) (has_twin g1 i) (spare_at g2 i) (content_at g.nodes i)
    where
      at1 : content_at g1.nodes i ≡ unlinked (unclear_at g i) (content_at g.nodes i)
      at1 = bytes_at g i h

      at2 : content_at g2.nodes i ≡ unlinked (has_twin g1 i) (content_at g1.nodes i)
      at2 = twins_at g1 i (rw size1 h)

  pub mended_heads : (mended g).heads ≡ g.heads
  unfolding mended spare_mended twins_mended bytes_mended cleared
  mended_heads = refl

  -- a node that is recovered behind the first two steps had no reason to be changed by them
  pub recovered_through : (i : ℕ) → i < g.n → recovered_at g2 i ≡ true → (unclear_at g i ≡ false) × (has_twin g1 i ≡ false) × (recovered_at g i ≡ true)
  recovered_through i h e =
      let a = twins_recovered g1 i (rw size1 h) e in
      let b = bytes_recovered g i h a.1 in
      (b.0, a.0, b.1)

  -- a node that has a reason had its linked flag set, so it did change
  pub reason_set : (i : ℕ) → i < g.n → (reason_at g i ≡ 0 → ⊥) → 0 < (content_at g.nodes i).linked
  unfolding reason_at
  reason_set i h ne = by (unclear_at g i) (has_twin g1 i) (spare_at g2 i) refl refl refl ne
    where
      by : (a b c : Bool) → unclear_at g i ≡ a → has_twin g1 i ≡ b → spare_at g2 i ≡ c → (why a b c ≡ 0 → ⊥) → 0 < (content_at g.nodes i).linked
      by true b c p q r n = omega (arith, unclear_above g i p)
      by false true c p q r n = flag_set g i (bytes_recovered g i h (clear.twin_recovered g1 i q)).1
      by false false true p q r n = flag_set g i (recovered_through i h (all_recovered g2 (spare_all g2 i r).0 i (rw size2 h))).2
      by false false false p q r n = absurd (n refl)

  -- "A list with an 8 has no other entry"
  pub alone_eight : (i : ℕ) → reason_at g i ≡ 8 → (j : ℕ) → j < g.n → (j ≡ i → ⊥) → reason_at g j ≡ 0
  unfolding reason_at
  alone_eight i e j h ne = by (unclear_at g i) (has_twin g1 i) (spare_at g2 i) refl e
    where
      off : spare_at g2 i ≡ true → (b : Bool) → spare_at g2 j ≡ b → b ≡ false
      off r true t = absurd (ne ((spare_all g2 j t).1 ∙ sym (spare_all g2 i r).1))
      off r false t = refl

      none : spare_at g2 i ≡ true → reason_at g j ≡ 0
      none r =
          let f = recovered_through j h (all_recovered g2 (spare_all g2 i r).0 j (rw size2 h)) in
          rw (f.0, f.1, off r (spare_at g2 j) refl)

      by : (a b c : Bool) → spare_at g2 i ≡ c → why a b c ≡ 8 → reason_at g j ≡ 0
      by true b c r z = absurd (omega arith)
      by false true c r z = absurd (omega arith)
      by false false true r z = none r
      by false false false r z = absurd (omega arith)

  -- ---- an accepted image

  -- "an accepted image comes back the same": where 6, 7 and 8 pass it, and its table has room for its nodes
  pub accepted_same : g.n ≤ length g.nodes → accepted (sound g Taken) ≡ true → mended g ≡ g
  unfolding mended
  accepted_same l h =
      let p = parts g h in
      let e1 = bytes_none g l p.0 in
      let e2 = twins_none g l p.1 in
      let e3 = spare_none g l p.2 in
      ap (λ z. spare_mended (twins_mended z)) e1 ∙ ap spare_mended e2 ∙ e3

  -- "with an empty list"
  pub accepted_reasons : g.n ≤ length g.nodes → accepted (sound g Taken) ≡ true → (i : ℕ) → i < g.n → reason_at g i ≡ 0
  unfolding reason_at
  accepted_reasons l h i p =
      let q = parts g h in
      let e1 = bytes_none g l q.0 in
      let e2 = twins_none g l q.1 in
      rw (q.0 i p, e1, q.1 i p, e2, q.2 i)

  pub mended_length : g.n ≤ length g.nodes → length (mended g).nodes ≡ length g.nodes
  unfolding mended spare_mended twins_mended bytes_mended
  mended_length l =
      let l1 = clear.cleared_length (unclear_at g) g l in
      let l2 = clear.cleared_length (has_twin (cleared (unclear_at g) g)) (cleared (unclear_at g) g) (omega (arith, clear.cleared_n (unclear_at g) g)) in
      clear.cleared_length (spare_at (twins_mended (bytes_mended g))) (twins_mended (bytes_mended g)) (omega (arith, size2)) ∙ l2 ∙ l1

  -- nodes beyond the last are as they were
  pub mended_beyond : drop g.n (mended g).nodes ≡ drop g.n g.nodes
  unfolding mended spare_mended twins_mended bytes_mended cleared
  mended_beyond =
      clear.cleared_beyond (spare_at g2) g2 ∙ clear.cleared_beyond (has_twin g1) g1 ∙ clear.cleared_beyond (unclear_at g) g

  pub mended_threads : (mended g).t ≡ g.t
  unfolding mended spare_mended twins_mended bytes_mended cleared
  mended_threads = refl

  pub mended_form : (mended g).form ≡ g.form
  unfolding mended spare_mended twins_mended bytes_mended cleared
  mended_form = refl

-- "mending twice is mending once"
pub mended_once : (g : Image) → 0 < g.n → g.n ≤ length g.nodes → mended (mended g) ≡ mended g
mended_once g h l =
    accepted_same (mended g) (omega (arith, size3 g, mended_length g l)) (ap accepted (mended_sound g h))

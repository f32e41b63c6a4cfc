-- Bytes of a schedule: numbers, an event, its mark and its image's, as the bytes that they stand in.
use Prim.Native.Nat.{ℕ, ◌+◌, ◌*◌, ◌/◌, ◌%◌, ◌≤◌}
use mathlib.Core.Path.{◌≡◌, refl, sym, ap, ◌∙◌}
use mathlib.Core.Bool.{true}
use mathlib.Core.List.{List, [], ◌∷◌}
use native.Mathlib.Omega.{arith}
use native.Mathlib.Nat.{add-zero, add_assoc}
use borrow.Author.Tests.{eqb-true}
use lib.ListN.{length, get_or, take, drop}
use lib.Dec.{eqb}
use lib.Seq.{take_at, take-add, length-take-le}
use Rattle.lists.specs.Tab.{tab, joined}
use Rattle.lists.proofs.BoolLaws.{both_true}
use Rattle.lists.proofs.TabLaws as tabs
use Rattle.image.specs.Bytes.{le, le4, at1, at2, at4, at_w}
use Rattle.image.specs.Form.{form_of, known, held_threads, per_desk, width_of, heads_at, head_lines, header_size}
use Rattle.image.specs.Layout.{marked, form_in, shape_in, mark_bytes, head_bytes}
use Rattle.image.specs.Refusals.{agree}
use Rattle.image.proofs.ByteLaws as num
use Rattle.image.proofs.FormLaws as forms
use Rattle.image.proofs.ShapeLaws.{agree_is}
use Rattle.codec.proofs.ReadWrite as again
use Rattle.codec.proofs.Shapes as shapes

pub byte4 : (s : List ℕ) (i : ℕ) → num.Bytes s → i + 4 ≤ length s → le4 (at4 s i) ≡ get_or s i 0 ∷ get_or s (i + 1) 0 ∷ get_or s (i + 2) 0 ∷ get_or s (i + 3) 0 ∷ []
byte4 s i b l = num.le_at 4 s i b l ∙ num.four_at s i l

pub byte2 : (s : List ℕ) (i : ℕ) → num.Bytes s → i + 2 ≤ length s → at2 s i % 256 ∷ at2 s i / 256 % 256 ∷ [] ≡ get_or s i 0 ∷ get_or s (i + 1) 0 ∷ []
byte2 s i b l = num.le_at 2 s i b l ∙ num.two_at s i l

-- six bytes of an event
pub six : (s : List ℕ) (p : ℕ) → num.Bytes s → p + 6 ≤ length s → get_or s p 0 % 256 ∷ get_or s (p + 1) 0 % 256 ∷ le4 (at4 s (p + 2)) ≡ take 6 (drop p s)
unfolding tab
six s p b h =
    let t : take 6 (drop p s) ≡ get_or s p 0 ∷ get_or s (p + 1) 0 ∷ get_or s (p + 2) 0 ∷ get_or s (p + 3) 0 ∷ get_or s (p + 4) 0 ∷ get_or s (p + 5) 0 ∷ [] =
    tabs.take_drop_tab s 0 p 6 h ∙ simp add-zero in
    let x : get_or s p 0 % 256 ≡ get_or s p 0 = omega (arith, b p) in
    let y : get_or s (p + 1) 0 % 256 ≡ get_or s (p + 1) 0 = omega (arith, b (p + 1)) in
    rw (x, y) (ap (λ (u : List ℕ). get_or s p 0 ∷ get_or s (p + 1) 0 ∷ u) (byte4 s (p + 2) b (omega arith)) ∙ simp add_assoc (sym t))

-- a mark's five bytes
pub record Marks (s : List ℕ) (c : ℕ) : Type 0 where
  pub m0 : get_or s 0 0 ≡ 85
  pub m1 : get_or s 1 0 ≡ 81
  pub m2 : get_or s 2 0 ≡ c
  pub m3 : get_or s 3 0 ≡ 1
  pub m4 : get_or s 4 0 ≡ 0

pub marks_of : (s : List ℕ) (c : ℕ) → marked 85 81 c 1 s ≡ true → Marks s c
unfolding marked
marks_of s c m =
    let a = both_true (eqb (get_or s 0 0) 85) _ m in
    let b = both_true (eqb (get_or s 1 0) 81) _ a.1 in
    let d = both_true (eqb (get_or s 2 0) c) _ b.1 in
    let e = both_true (eqb (get_or s 3 0) 1) _ d.1 in
    record { m0 = eqb-true _ _ a.0; m1 = eqb-true _ _ b.0; m2 = eqb-true _ _ d.0; m3 = eqb-true _ _ e.0; m4 = eqb-true _ _ e.1 }

-- ---- the image's mark, by the schedule's shape

mark_same : (f n t u : ℕ) → known f ≡ true → (per_desk f ≡ true → held_threads (form_of f) t ≡ u)
    → mark_bytes (record { form = f; n = n; t = held_threads (form_of f) t }) ≡ mark_bytes (record { form = f; n = n; t = u })
unfolding mark_bytes per_desk
mark_same f n t u k =
    forms.by_form
    (λ f. (eqb f 4 ≡ true → held_threads (form_of f) t ≡ u)
    → mark_bytes (record { form = f; n = n; t = held_threads (form_of f) t }) ≡ mark_bytes (record { form = f; n = n; t = u }))
    f
    k
    (λ q. refl)
    (λ q. refl)
    (λ q. ap (λ (t : ℕ). mark_bytes (record { form = 4; n = n; t = t })) (q refl))

module _ (s : List ℕ) (b : num.Bytes s) (k : known (form_in s) ≡ true) (h : header_size (shape_in s) ≤ length s) where
  mark_own : mark_bytes (shape_in s) ≡ take (heads_at (form_in s)) s
  unfolding head_bytes shape_in
  mark_own =
      let z = shape_in s in
      let f = form_in s in
      let w = width_of f in
      let j = joined (λ i. le w (at_w w s (heads_at f + i * w))) (head_lines z) in
      sym (take_at (mark_bytes z) j (heads_at f) (shapes.mark_length z k))
      ∙ ap (take (heads_at f)) (again.head_there s b k h)
      ∙ ap (λ n. take (heads_at f) (take n s)) (forms.header_is z)
      ∙ ap (take (heads_at f)) (take-add (heads_at f) (head_lines z * w) s)
      ∙ take_at (take (heads_at f) s) (take (head_lines z * w) (drop (heads_at f) s)) (heads_at f) (length-take-le (heads_at f) s (omega (arith, h, forms.header_is z)))

  -- T is the schedule's
  pub mark_there : (t : ℕ) → agree t (shape_in s) ≡ true → mark_bytes (record { form = form_in s; n = at1 s 5; t = t }) ≡ take (heads_at (form_in s)) s
  unfolding shape_in
  mark_there t a = sym (mark_same (form_in s) (at1 s 5) (at1 s 6) t k (agree_is t (shape_in s) a)) ∙ mark_own

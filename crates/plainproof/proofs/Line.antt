-- One line: what its picks leave in order of time, repeats after the first dropped, is its list of contents.
use Prim.Native.Nat.{ℕ, zero, suc, ◌+◌, ◌-◌, max, ◌≤◌, ◌<◌}
use mathlib.Core.Path.{◌≡◌, refl, sym, ap, ap₂, subst, ◌∙◌}
use mathlib.Core.Bool.{Bool, true, false}
use mathlib.Core.List.{List, [], ◌∷◌, ◌++◌, map}
use native.Mathlib.Omega.{arith}
use native.Mathlib.Nat.{max-eq_left, max-eq_right}
use lib.ListN.{length, get_or, drop, take, length-drop}
use lib.Seq.{take_all}
use Rattle.lists.specs.Tab.{tab}
use Rattle.lists.proofs.TabLaws as tabs
use Rattle.image.specs.Layout.{same_content}
use Rattle.image.specs.declared.Content.{Content}
use Rattle.machine.specs.Line.{cached_at, persisted_at}
use Rattle.machine.specs.Start.{blank_machine}
use Rattle.machine.specs.declared.Line.{Line}
use Rattle.machine.specs.declared.Machine.{Machine}
use Rattle.schedule.specs.Run.{Bench}
use Rattle.page.specs.Contents.{joins, gathered, contents_of}
use Rattle.moments.proofs.Joins as joined
use Rattle.plainproof.specs.Once.{joins_by, gathered_by, once}
use Rattle.plainproof.specs.Plain.{picks_of}
use Rattle.plainproof.specs.Times.{pick_leaves}
use Rattle.plainproof.proofs.OnceLaws as laws
use Rattle.plainproof.proofs.OnceLaws.{Tells}

pub content_tells : Tells same_content
content_tells = record { equal = joined.same_equal; self = joined.same_self }

-- the page's own joins is the general one
joins_is : (l : List Content) (c : Content) → joins_by same_content l c ≡ joins l c
unfolding joins_by joins
joins_is [] c = refl
joins_is (a ∷ l) c = by (same_content a c) (joins_is l c)
  where
    by : (x : Bool) → joins_by same_content l c ≡ joins l c
        → ◌≡◌ {A = List Content} (elim x [ true ↦ a ∷ l | false ↦ a ∷ joins_by same_content l c ]) (elim x [ true ↦ a ∷ l | false ↦ a ∷ joins l c ])
    by true e = refl
    by false e = ap (λ (y : List Content). a ∷ y) e

-- one more, at the end
once_more : (xs : List Content) (c : Content) → once same_content (xs ++ (c ∷ [])) ≡ joins (once same_content xs) c
unfolding gathered_by
once_more xs c = laws.gather_append same_content content_tells [] xs (c ∷ []) ∙ joins_is (once same_content xs) c

-- the contents x, then c q at each moment q; those before moment k have c k
module _ (x : Content) (c : ℕ → Content) (k : ℕ) where
  F : ℕ → Content
  F zero = x
  F (suc q) = c (max q k)

  abbrev G : ℕ → List Content
  G n = once same_content (tab F n)

  more : (n : ℕ) → G (suc n) ≡ joins (G n) (F n)
  unfolding tab
  more n = once_more (tab F n) (F n)

  first : G 1 ≡ x ∷ []
  unfolding tab gathered_by joins_by F
  first = refl

  -- up to moment k there is one content beside x
  until : (q : ℕ) → q ≤ k → G (suc (suc q)) ≡ joins (x ∷ []) (c k)
  unfolding F
  until zero h = more 1 ∙ ap₂ joins first (ap c (max-eq_right h))
  until (suc q) h =
      more (suc (suc q)) ∙ ap₂ joins (until q (omega arith)) (ap c (max-eq_right h)) ∙ joined.joins_again (x ∷ []) (c k)

  -- and from there on each is joined
  since : (d n : ℕ) → n ≡ k + d → G (suc (suc n)) ≡ gathered (x ∷ []) (tab (λ i. c (k + i)) (suc d))
  unfolding F gathered tab
  since zero n e = until n (omega arith) ∙ ap (λ (i : ℕ). joins (x ∷ []) (c i)) (let z : k ≡ k + 0 = omega arith in z)
  since (suc d) zero e = absurd (omega arith)
  since (suc d) (suc n) e =
      more (suc (suc n)) ∙ ap₂ joins (since d n (omega arith)) (ap c (max-eq_left (let z : k ≤ suc n = omega arith in z) ∙ e))
      ∙ sym (joined.gathered_more (x ∷ []) (tab (λ i. c (k + i)) (suc d)) (c (k + suc d)))

-- the line's picks, nothing first, then in order of time
pub line_once : (b : Bench) (e : ℕ) (l : Line) → length b.past ≡ suc e → b.from l ≤ e → once same_content (map (pick_leaves b l) (picks_of e)) ≡ contents_of b l
unfolding contents_of F
line_once b e l long early =
    ap (once same_content) (tabs.map_tab (pick_leaves b l) (λ p. p) (suc (suc e)) ∙ tabs.tab_same (pick_leaves b l) (F x c k) (suc (suc e)) (λ p h. same p))
    ∙ since x c k (e - k) e (omega arith)
    ∙ ap (gathered (x ∷ [])) (sym (tabs.map_tab (λ m. cached_at m l) (λ i. get_or b.past (k + i) blank_machine) (suc (e - k)))
    ∙ ap (map (λ m. cached_at m l)) (sym (tabs.take_drop_tab b.past blank_machine k (suc (e - k)) (omega (arith, long)))
    ∙ take_all (suc (e - k)) (drop k b.past) (omega (arith, length-drop k b.past, long))))
  where
    x : Content
    x = persisted_at b.machine l

    k : ℕ
    k = b.from l

    c : ℕ → Content
    c q = cached_at (get_or b.past q blank_machine) l

    same : (p : ℕ) → pick_leaves b l p ≡ F (persisted_at b.machine l) (λ q. cached_at (get_or b.past q blank_machine) l) (b.from l) p
    same zero = refl
    same (suc q) = refl

-- What a group says, and which of 02's conditions never meet, whatever the image.
use Prim.Native.Nat.{ℕ, ◌<◌}
use mathlib.Core.Path.{◌≡◌, ap, ◌∙◌}
use mathlib.Core.Bool.{Bool, true, false, not}
use native.Mathlib.Omega.{arith}
use lib.Dec.{eqb, leb}
use borrow.Author.Tests.{ltb-true, leb-true, eqb-true, not-true}
use Rattle.lists.specs.Find.{pick, both}
use Rattle.lists.proofs.BoolLaws.{both_true}
use Rattle.image.specs.Layout.{content_at}
use Rattle.image.specs.Recovered.{head_of, recovered, recovered_at}
use Rattle.image.specs.declared.Content.{Content}
use Rattle.image.specs.declared.Image.{Image}
use Rattle.parcels.specs.Parcel.{is_linked}
use Rattle.parcels.specs.Despatch.{handed_out, still_queued, turned_away, taken_alone, group_of}
use Rattle.parcels.specs.declared.Parcel.{Parcel}
use Rattle.parcels.specs.declared.Group.TheVariants.{HandedOut, Queued, TurnedAway, TakenAlone, NeverIn}

pub above : (h : ℕ) (c : Content) → recovered h c ≡ true → h < c.index
unfolding recovered
above h c e = ltb-true h c.index (both_true (eqb c.linked 1) _ e).1

module _ (g : Image) (p : Parcel) where
  -- what is still queued lies behind the head, what was taken does not
  pub queued_not_taken : still_queued g p ≡ true → taken_alone g p ≡ true → ⊥
  queued_not_taken a b =
      let x = both_true (recovered_at g p.node) (eqb (content_at g.nodes p.node).index p.index)
      (both_true (is_linked p) (both (recovered_at g p.node) (eqb (content_at g.nodes p.node).index p.index)) a).1 in
      let y = both_true (leb p.index (head_of g)) (not p.handed) (both_true (is_linked p) (both (leb p.index (head_of g)) (not p.handed)) b).1 in
      omega (arith, above (head_of g) (content_at g.nodes p.node) x.0, eqb-true (content_at g.nodes p.node).index p.index x.1, leb-true p.index (head_of g) y.0)

  -- what was taken without an answer was not handed out
  pub taken_not_handed : taken_alone g p ≡ true → handed_out p ≡ false
  taken_not_handed b = not-true p.handed (both_true (leb p.index (head_of g)) (not p.handed) (both_true (is_linked p) (both (leb p.index (head_of g)) (not p.handed)) b).1).1

  -- ---- the group is that of the first condition that holds

  pub by_tests : (a b c d : Bool) → handed_out p ≡ a → still_queued g p ≡ b → turned_away p ≡ c → taken_alone g p ≡ d
      → group_of g p ≡ pick a HandedOut (pick b Queued (pick c TurnedAway (pick d TakenAlone NeverIn)))
  unfolding group_of
  by_tests a b c d e f h k =
      ap (λ (z : Bool). pick z HandedOut (pick (still_queued g p) Queued (pick (turned_away p) TurnedAway (pick (taken_alone g p) TakenAlone NeverIn)))) e
      ∙ ap (λ (z : Bool). pick a HandedOut (pick z Queued (pick (turned_away p) TurnedAway (pick (taken_alone g p) TakenAlone NeverIn)))) f
      ∙ ap (λ (z : Bool). pick a HandedOut (pick b Queued (pick z TurnedAway (pick (taken_alone g p) TakenAlone NeverIn)))) h
      ∙ ap (λ (z : Bool). pick a HandedOut (pick b Queued (pick c TurnedAway (pick z TakenAlone NeverIn)))) k

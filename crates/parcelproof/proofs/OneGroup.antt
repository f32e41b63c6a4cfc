-- On one queue 02's conditions exclude each other: what was handed out lies at or below the head index of every ending, what was turned away was never linked.
use Prim.Native.Nat.{ℕ, ◌≤◌, ◌<◌}
use mathlib.Core.Path.{◌≡◌, refl, sym, ap, subst, ◌∙◌}
use mathlib.Core.Bool.{Bool, true, false, not}
use mathlib.Core.List.{List, [], ◌∷◌}
use mathlib.Core.Logic.{inl, inr}
use native.Mathlib.Omega.{arith}
use lib.Dec.{eqb, leb}
use lib.ListN.{get_or}
use borrow.Author.Tests.{eqb-true}
use Rattle.lists.specs.Find.{pick, both}
use Rattle.lists.proofs.BoolLaws.{no_way, both_true}
use Rattle.image.specs.Layout.{content_at}
use Rattle.image.specs.Recovered.{head_of, recovered_at}
use Rattle.image.specs.declared.Content.{Content}
use Rattle.image.specs.declared.Image.{Image}
use Rattle.machine.specs.Line.{shape_of}
use Rattle.schedule.specs.Run as schedule
use Rattle.schedule.specs.Run.{ran}
use Rattle.page.specs.Contents.{table_of}
use Rattle.page.specs.Endings.{choices, image_of, ending}
use Rattle.page.specs.Refusals.{table_in, ending_count, ending_in}
use Rattle.model.specs.Lines.{of_head}
use Rattle.model.specs.Conf.{Conf, head_lines}
use Rattle.model.specs.Recovery as recovery
use Rattle.model.specs.Bench.{Bench}
use Rattle.model.proofs.Layer2.Heads.{largest_le}
use Rattle.tied.specs.Shown.{image_shown}
use Rattle.tied.proofs.Bench.{BenchT}
use Rattle.tied.proofs.Images.{head_is}
use Rattle.lawproof.proofs.Endings.{Chosen, chosen_t, is_ending}
use Rattle.lawproof.proofs.Lawful3.{page_parts, table_chosen}
use Rattle.parcels.specs.Parcel.{is_linked, parcels_in}
use Rattle.parcels.specs.Despatch.{handed_out, still_queued, turned_away, taken_alone, group_of, number_of}
use Rattle.parcels.specs.declared.Parcel.{Parcel}
use Rattle.parcels.specs.declared.Group.TheVariants.{HandedOut, Queued, TurnedAway, TakenAlone}
use Rattle.parcelproof.specs.Apart.{In, Apart, OneGroup, Told, GroupTold}
use Rattle.parcelproof.proofs.Groups.{above, queued_not_taken, taken_not_handed, by_tests}
use Rattle.parcelproof.proofs.Taking.{Covered}
use Rattle.parcelproof.proofs.Held.{Held}
use Rattle.parcelproof.proofs.Steps.{Each}
use Rattle.parcelproof.proofs.Listed.{listed_end}

pub each_in : (P : Parcel → Type 0) (l : List Parcel) (p : Parcel) → In p l → Each P l → P p
each_in P [] p h a = absurd h
each_in P (r ∷ l) p (inl e) a = subst P (sym e) a.0
each_in P (r ∷ l) p (inr h) a = each_in P l p h a.1

-- no ending has a head index below what is covered
pub head_over : (b : schedule.Bench) (B : Bench) (r : BenchT b B) (c : List Content) (pick : Chosen b c) (x : ℕ) → Covered B.mach x → x ≤ head_of (image_of (shape_of b.machine) c)
unfolding recovery.head_of
head_over b B r c pick x v =
    let e = image_of (shape_of b.machine) c in
    let E = image_shown e b.machine.t in
    let z = is_ending b B r c pick in
    let u = v.above _ (z.lines (of_head v.line) v.there) in
    let w = largest_le (head_lines E.conf) E.heads v.line (subst (λ (f : Conf). v.line < head_lines f) (sym z.conf) v.there) in
    let q : recovery.head_of E ≡ head_of e = head_is e b.machine.t E (chosen_t b B r c pick) in
    omega (arith, u, w, q)

module _ (g : Image) (p : Parcel) where
  linked_queued : still_queued g p ≡ true → is_linked p ≡ true
  linked_queued h = (both_true (is_linked p) (both (recovered_at g p.node) (eqb (content_at g.nodes p.node).index p.index)) h).0

  linked_alone : taken_alone g p ≡ true → is_linked p ≡ true
  linked_alone h = (both_true (is_linked p) (both (leb p.index (head_of g)) (not p.handed)) h).0

  pub queued_above : still_queued g p ≡ true → head_of g < p.index
  queued_above h =
      let x = both_true (recovered_at g p.node) (eqb (content_at g.nodes p.node).index p.index)
      (both_true (is_linked p) (both (recovered_at g p.node) (eqb (content_at g.nodes p.node).index p.index)) h).1 in
      omega (arith, above (head_of g) (content_at g.nodes p.node) x.0, eqb-true (content_at g.nodes p.node).index p.index x.1)

  apart : (B : Bench) → Held B.mach p → ((x : ℕ) → Covered B.mach x → x ≤ head_of g) → Apart g p
  apart B h low = record {
    handed_queued = λ a b. omega (arith, low p.index (h.handed a).2, queued_above b);
    handed_turned = λ a b. no_way (sym (h.taken (h.handed a).0 (h.handed a).1) ∙ h.turned b);
    handed_alone = λ a b. no_way (sym a ∙ taken_not_handed g p b);
    queued_turned = λ a b. no_way (sym (linked_queued a) ∙ h.turned b);
    queued_alone = λ a b. queued_not_taken g p a b;
    turned_alone = λ a b. no_way (sym (linked_alone b) ∙ h.turned a);
  }

pub one_group : OneGroup
unfolding ending_count ending_in ending table_in
one_group s bytes a k h p i =
    let q = page_parts s a in
    let l = listed_end s bytes q.0 q.1 in
    apart (ending_in s k) p l.model (each_in (Held l.model.mach) (parcels_in s) p i l.held)
    (head_over (ran s).bench l.model l.tied (get_or (choices (table_of (ran s).bench)) k []) (table_chosen (ran s).bench k h))

-- ---- so the group is that of the condition that holds

not_both : (x : Bool) → (x ≡ true → ⊥) → x ≡ false
not_both true f = absurd (f refl)
not_both false f = refl

module _ (g : Image) (p : Parcel) (a : Apart g p) where
  handed_told : handed_out p ≡ true → group_of g p ≡ HandedOut
  handed_told e = by_tests g p true (still_queued g p) (turned_away p) (taken_alone g p) e refl refl refl

  queued_told : still_queued g p ≡ true → group_of g p ≡ Queued
  queued_told e = by_tests g p false true (turned_away p) (taken_alone g p) (not_both (handed_out p) (λ h. a.handed_queued h e)) e refl refl

  turned_told : turned_away p ≡ true → group_of g p ≡ TurnedAway
  turned_told e =
      by_tests g p false false true (taken_alone g p) (not_both (handed_out p) (λ h. a.handed_turned h e)) (not_both (still_queued g p) (λ h. a.queued_turned h e)) e refl

  alone_told : taken_alone g p ≡ true → group_of g p ≡ TakenAlone
  alone_told e =
      by_tests g p false false false true (not_both (handed_out p) (λ h. a.handed_alone h e)) (not_both (still_queued g p) (λ h. a.queued_alone h e))
      (not_both (turned_away p) (λ h. a.turned_alone h e)) e

  pub told_by : Told g p
  told_by = record {
    handed = handed_told;
    queued = queued_told;
    turned = turned_told;
    alone = alone_told;
    handed_number = λ e. ap number_of (handed_told e);
    queued_number = λ e. ap number_of (queued_told e);
    turned_number = λ e. ap number_of (turned_told e);
    alone_number = λ e. ap number_of (alone_told e);
  }

pub group_told : GroupTold
group_told s bytes a k h p i = told_by (ending_in s k) p (one_group s bytes a k h p i)

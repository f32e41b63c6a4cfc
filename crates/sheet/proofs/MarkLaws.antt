-- Slots filled one after the other, and what they hold.
use Prim.Native.Nat.{ℕ, ◌+◌, ◌*◌, ◌/◌, ◌%◌, ◌≤◌, ◌<◌}
use mathlib.Core.Path.{◌≡◌, refl}
use mathlib.Core.List.{List, []}
use native.Mathlib.Omega.{arith}
use borrow.Author.Tests.{eq-eqb, ne_eqb, lt-ltb, le-ltb}
use lib.ListN.{length, get_or, set}
use Rattle.lists.proofs.TabLaws as tabs
use Rattle.image.specs.declared.Content.{Content}
use Rattle.image.specs.Layout.{content_at}
use Rattle.sheet.specs.Marks.{slot_content, mark_of, mark_at, item_in, blank_slots, marks_of, items_in, slot_count}

blank_length : length blank_slots ≡ 1040
unfolding blank_slots
blank_length = refl

pub marks_none : (t : List (List Content)) (cs : List ℕ) → blank_slots ≡ marks_of t cs 0
unfolding marks_of
marks_none t cs = tabs.front_none (mark_at t cs) blank_slots

pub items_none : (t : List (List Content)) → blank_slots ≡ items_in t 0
unfolding items_in
items_none t = tabs.front_none (item_in t) blank_slots

pub marks_next : (t : List (List Content)) (cs : List ℕ) (e : ℕ) → e < 1040
    → set (marks_of t cs e) e (mark_of (content_at (get_or t (e / 16) []) (e % 16)) e (get_or cs (e / 16) 0)) ≡ marks_of t cs (e + 1)
unfolding marks_of mark_at slot_content
marks_next t cs e h = tabs.front_next (mark_at t cs) e blank_slots (omega (arith, blank_length))

pub items_next : (t : List (List Content)) (e : ℕ) → e < 1040 → set (items_in t e) e (content_at (get_or t (e / 16) []) (e % 16)).item ≡ items_in t (e + 1)
unfolding items_in slot_content
items_next t e h = tabs.front_next (item_in t) e blank_slots (omega (arith, blank_length))

-- the code's number of slots
pub slots_are : (n : ℕ) → (n + 1) * 16 ≡ slot_count n
slots_are n = omega arith

pub mark_at_lem : (t : List (List Content)) (cs : List ℕ) (k e : ℕ) → e < k → get_or (marks_of t cs k) e 0 ≡ mark_at t cs e
unfolding marks_of
mark_at_lem t cs k e h = tabs.front_at (mark_at t cs) k blank_slots e 0 h

pub item_at : (t : List (List Content)) (k e : ℕ) → e < k → get_or (items_in t k) e 0 ≡ (slot_content t e).item
unfolding items_in
item_at t k e h = tabs.front_at (item_in t) k blank_slots e 0 h

-- ---- one mark, at the code's numbers

module _ (v : Content) (e c : ℕ) where
  pub mark_head : e < 16 → v.index ≡ mark_of v e c
  unfolding mark_of
  mark_head h = rw (lt-ltb e 16 h)

  pub mark_beyond : 16 ≤ e → c ≤ e % 16 → 0 ≡ mark_of v e c
  unfolding mark_of
  mark_beyond h b = rw (le-ltb e 16 h, le-ltb (e % 16) c b)

  pub mark_linked : 16 ≤ e → e % 16 < c → v.linked ≡ 1 → v.index ≡ mark_of v e c
  unfolding mark_of
  mark_linked h b l = rw (le-ltb e 16 h, lt-ltb (e % 16) c b, eq-eqb v.linked 1 l)

  pub mark_loose : 16 ≤ e → e % 16 < c → (v.linked ≡ 1 → ⊥) → 0 ≡ mark_of v e c
  unfolding mark_of
  mark_loose h b l = rw (le-ltb e 16 h, lt-ltb (e % 16) c b, ne_eqb v.linked 1 l)

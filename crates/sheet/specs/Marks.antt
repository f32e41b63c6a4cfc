-- The table of a page with one head line, laid out in slots: slot e is content e % 16 of line e / 16.
use Rattle.std.specs.Prelude.{ℕ, ◌+◌, ◌*◌, ◌/◌, ◌%◌, List, [], get_or, replicate, eqb, ltb}
use Rattle.lists.specs.Find.{pick}
use Rattle.lists.specs.Tab.{front}
use Rattle.image.specs.Layout.{content_at}
use Rattle.image.specs.declared.Content.{Content}

unfoldable pub slot_content : List (List Content) → ℕ → Content
slot_content t e = content_at (get_or t (e / 16) []) (e % 16)

-- what a content v counts for in slot e of a line with c contents: the head line's its index; a node's its index too where it is linked,
-- and 0 where it is not, or is none of the c
unfoldable pub mark_of : Content → ℕ → ℕ → ℕ
mark_of v e c = pick (ltb e 16) v.index (pick (ltb (e % 16) c) (pick (eqb v.linked 1) v.index 0) 0)

unfoldable pub mark_at : List (List Content) → List ℕ → ℕ → ℕ
mark_at t cs e = mark_of (slot_content t e) e (get_or cs (e / 16) 0)

abbrev pub item_in : List (List Content) → ℕ → ℕ
item_in t e = (slot_content t e).item

unfoldable pub blank_slots : List ℕ
blank_slots = replicate 1040 0

-- the marks and the items of the first k slots
unfoldable pub marks_of : List (List Content) → List ℕ → ℕ → List ℕ
marks_of t cs k = front (mark_at t cs) k blank_slots

unfoldable pub items_in : List (List Content) → ℕ → List ℕ
items_in t k = front (item_in t) k blank_slots

-- how many slots the head line and n nodes have
abbrev pub slot_count : ℕ → ℕ
slot_count n = 16 * (1 + n)

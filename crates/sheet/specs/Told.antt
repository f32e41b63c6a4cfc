-- The end of an ending's line, told from the slots in their order.
use Rattle.std.specs.Prelude.{ℕ, ◌+◌, ◌*◌, ◌/◌, ◌%◌, ◌<◌, ◌≤◌, ◌≡◌, Bool, true, false, List, [], ◌∷◌, ◌++◌, length, get_or, take, eqb, ltb}
use Rattle.lists.specs.Find.{both}
use Rattle.lists.specs.Tab.{joined, over}
use Rattle.lists.specs.Text.{text, decimal}
use Rattle.page.specs.Printed.{newline}

-- a slot's content is chosen, and recovered over the head index
abbrev pub is_told : ℕ → ℕ → ℕ → ℕ → Bool
is_told d j head rank = both (eqb d j) (ltb head rank)

-- what it adds to the line
abbrev pub piece_if : ℕ → Bool → List ℕ
piece_if item true = text " " ++ decimal item
piece_if item false = []

unfoldable pub piece_of : ℕ → ℕ → ℕ → ℕ → ℕ → List ℕ
piece_of d j head rank item = piece_if item (is_told d j head rank)

-- the head index of the choices ps: there is one head line
abbrev pub head_mark : List ℕ → List ℕ → ℕ
head_mark ranks ps = get_or ranks (get_or ps 0 0) 0

-- what the slot at place p adds
unfoldable pub piece_at : List ℕ → List ℕ → List ℕ → List ℕ → ℕ → ℕ → List ℕ
piece_at ranks items slots ps head p =
    let e = get_or slots p 0 in
    piece_of (get_or ps (e / 16) 0) (e % 16) head (get_or ranks e 0) (get_or items e 0)

-- the line up to the slot at place c
unfoldable pub told_to : List ℕ → List ℕ → List ℕ → List ℕ → ℕ → ℕ → List ℕ
told_to ranks items slots ps head c = (text " " ++ decimal head) ++ joined (piece_at ranks items slots ps head) c

-- and its end: a dash where no item was told
abbrev pub closing : List ℕ → List ℕ
closing [] = text " -" ++ newline
closing (x ∷ l) = newline

unfoldable pub told_end : List ℕ → List ℕ → List ℕ → List ℕ → ℕ → ℕ → List ℕ
told_end ranks items slots ps head c = told_to ranks items slots ps head c ++ closing (joined (piece_at ranks items slots ps head) c)

-- `end` has the line up to the slot at place c, and `ends` where each slot's text begins: a blank and the head index are at most 21
-- bytes, a blank and an item at most 11
pub record Told (ranks items slots ps : List ℕ) (head c : ℕ) (end ends : List ℕ) : Type 0 where
  pub begins : (p : ℕ) → p ≤ c → get_or ends p 0 ≡ length (told_to ranks items slots ps head p)
  pub short : (p : ℕ) → p ≤ c → get_or ends p 0 ≤ 21 + 11 * p
  pub text : take (get_or ends c 0) end ≡ told_to ranks items slots ps head c

-- each of the first c slots is one
abbrev pub Slots : List ℕ → ℕ → Type 0
Slots slots c = (p : ℕ) → p < c → get_or slots p 0 < 1040

-- a line whose items began at `begin` and end at p is closed; r is the place behind it
abbrev pub Closed : List ℕ → ℕ → ℕ → List ℕ → ℕ → Type 0
Closed b p begin b' r =
    (p ≡ begin → (r ≡ p + 3) × (b' ≡ over b p (text " -" ++ newline)))
    × ((p ≡ begin → ⊥) → (r ≡ p + 1) × (b' ≡ over b p newline))

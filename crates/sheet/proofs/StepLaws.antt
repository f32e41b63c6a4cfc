-- From an ending's line to the next one: what is told before the first slot that the turn may change stays.
use Prim.Native.Nat.{ℕ, ◌+◌, ◌/◌, ◌≤◌, ◌<◌}
use mathlib.Core.Path.{◌≡◌, sym, ap, ap₂, subst, ◌∙◌}
use mathlib.Core.Bool.{false}
use mathlib.Core.List.{List, [], ◌∷◌, ◌++◌}
use native.Mathlib.Omega.{arith}
use native.Mathlib.Decide.{dec_lt}
use lib.ListN.{length, get_or, length-append}
use Rattle.lists.specs.Tab.{joined}
use Rattle.lists.specs.Text.{text, decimal}
use Rattle.lists.proofs.BoolLaws.{no_way}
use Rattle.image.specs.Form.{head_lines}
use Rattle.image.specs.declared.Shape.{Shape}
use Rattle.machine.specs.Line.{line_count}
use Rattle.endtable.specs.Picks.{Ready, picks_of, turned_of}
use Rattle.endtable.proofs.Turns as turns
use Rattle.sheet.specs.Marks.{slot_count}
use Rattle.sheet.specs.Order.{turns_at, moves, start_at, starts_of}
use Rattle.sheet.specs.Told.{piece_at, told_to, told_end, closing, head_mark, Told}
use Rattle.sheet.specs.Sheet.{line_told}
use Rattle.sheet.proofs.TurnLaws as laws
use Rattle.sheet.proofs.PlaceLaws as places
use Rattle.sheet.proofs.TellLaws as tells
use Rattle.sheet.proofs.EndLaws as ends

module _ (cs : List ℕ) (z : Shape) (one : head_lines z ≡ 1) (k : ℕ) (ready : Ready cs (line_count z)) where
  -- the choices of ending k and of the next one
  abbrev ps : List ℕ
  ps = picks_of cs z k

  abbrev next : List ℕ
  next = picks_of cs z (k + 1)

  abbrev line : ℕ
  line = turns_at cs (line_count z) ps

  pub before_same : (l : ℕ) → l < line → get_or ps l 0 ≡ get_or next l 0
  before_same l h = sym (laws.kept_before cs ps (line_count z) l h) ∙ ap (λ (x : List ℕ). get_or x l 0) (turns.turn_picks cs z k ready.0)

  alone_same : (l : ℕ) → l < line_count z → get_or cs l 0 ≤ 1 → get_or ps l 0 ≡ get_or next l 0
  alone_same l h a = omega (arith, ends.pick_below cs z k ready l h, ends.pick_below cs z (k + 1) ready l h)

  -- a slot that the turn does not move
  still_same : (e : ℕ) → e < slot_count z.n → moves cs line e ≡ false → get_or ps (e / 16) 0 ≡ get_or next (e / 16) 0
  still_same e h m = by (dec_lt (e / 16) line) (dec_lt 1 (get_or cs (e / 16) 0))
    where
      by : Dec (e / 16 < line) → Dec (1 < get_or cs (e / 16) 0) → get_or ps (e / 16) 0 ≡ get_or next (e / 16) 0
      by (yes l) d = before_same (e / 16) l
      by (no l) (yes d) = no_way (sym (places.moves_yes cs line e (omega arith) d) ∙ m)
      by (no l) (no d) = alone_same (e / 16) (omega (arith, one)) (omega arith)

  pub told_turned : (ranks items slots : List ℕ) (count : ℕ) (end ends : List ℕ) → ((p : ℕ) → p < count → get_or slots p 0 < slot_count z.n) → (line ≡ 0 → ⊥)
      → Told ranks items slots ps (head_mark ranks ps) count end ends
      → Told ranks items slots next (head_mark ranks next) (start_at slots count cs line) end ends
  told_turned ranks items slots count end ends r y t =
      let s = start_at slots count cs line in
      let h = places.start_le slots count cs line in
      subst (λ (x : ℕ). Told ranks items slots next (get_or ranks x 0) s end ends) (before_same 0 (omega arith))
      (tells.told_other ranks items slots ps (head_mark ranks ps) next s end ends
      (λ q g. still_same (get_or slots q 0) (r q (omega arith)) (places.start_still slots count cs line q g))
      (tells.told_back ranks items slots ps (head_mark ranks ps) s count end ends h t))

-- ---- at the code's numbers

module _ (cs : List ℕ) (z : Shape) (one : head_lines z ≡ 1) (k lines : ℕ) (ps : List ℕ) (ready : Ready cs (line_count z)) (e : lines ≡ line_count z) (p : ps ≡ picks_of cs z k) where
  turned_to : (i : ℕ) → i ≡ turns_at cs lines ps → i ≡ turns_at cs (line_count z) (picks_of cs z k)
  turned_to i h = h ∙ ap₂ (turns_at cs) e p

  pub next_picks : (ps' : List ℕ) → ps' ≡ turned_of cs lines ps → ps' ≡ picks_of cs z (k + 1)
  next_picks ps' h = h ∙ ap₂ (turned_of cs) e p ∙ turns.turn_picks cs z k ready.0

  pub turn_in : (i : ℕ) → i ≡ turns_at cs lines ps → i < lines
  turn_in i h = omega (arith, h, e, one, laws.at_lt cs ps lines (omega (arith, e, one)))

  pub step_told : (ranks items slots starts : List ℕ) (count : ℕ) (end ends ps' : List ℕ) (i : ℕ) → i ≡ turns_at cs lines ps → ps' ≡ turned_of cs lines ps
      → starts ≡ starts_of slots count cs (1 + z.n) → ((p : ℕ) → p < count → get_or slots p 0 < slot_count z.n)
      → Told ranks items slots ps (head_mark ranks ps) count end ends → (i ≡ 0 → ⊥)
      → (get_or starts i 0 ≤ count) × Told ranks items slots ps' (head_mark ranks ps') (get_or starts i 0) end ends
  step_told ranks items slots starts count end ends ps' i h g b r t w =
      let j = turned_to i h in
      let s : get_or starts i 0 ≡ start_at slots count cs i = ap (λ (l : List ℕ). get_or l i 0) b ∙ places.start_is slots count cs (1 + z.n) i (omega (arith, turn_in i h, e, one)) in
      let t' : Told ranks items slots (picks_of cs z k) (head_mark ranks (picks_of cs z k)) count end ends = subst (λ (x : List ℕ). Told ranks items slots x (head_mark ranks x) count end ends) p t in
      let u = told_turned cs z one k ready ranks items slots count end ends r (λ y. w (j ∙ y)) t' in (
        omega (arith, s, places.start_le slots count cs i),
        subst (λ (x : ℕ). Told ranks items slots ps' (head_mark ranks ps') x end ends) (ap (start_at slots count cs) (sym j) ∙ sym s)
            (subst (λ (x : List ℕ). Told ranks items slots x (head_mark ranks x) (start_at slots count cs (turns_at cs (line_count z) (picks_of cs z k))) end ends) (sym (next_picks ps' g)) u),
      )

-- ---- a line

pub line_is : (ranks items slots : List ℕ) (c : ℕ) (cs : List ℕ) (z : Shape) (k : ℕ) (ps l : List ℕ) → ps ≡ picks_of cs z k → l ≡ told_end ranks items slots ps (head_mark ranks ps) c
    → decimal k ++ l ≡ line_told ranks items slots c cs z k
unfolding line_told
line_is ranks items slots c cs z k ps l e h = ap (λ (x : List ℕ). decimal k ++ x) (h ∙ ap (λ (x : List ℕ). told_end ranks items slots x (head_mark ranks x) c) e)

closing_some : (l : List ℕ) → 0 < length (closing l)
unfolding text
closing_some [] = omega arith
closing_some (x ∷ l) = omega arith

-- no line is empty
pub told_some : (ranks items slots ps : List ℕ) (head c : ℕ) (a l : List ℕ) → l ≡ told_end ranks items slots ps head c → 0 < length (a ++ l)
unfolding told_end
told_some ranks items slots ps head c a l e =
    let x = joined (piece_at ranks items slots ps head) c in
    omega (arith, length-append a l, ap length e, length-append (told_to ranks items slots ps head c) (closing x), closing_some x)

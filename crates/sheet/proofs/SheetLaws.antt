-- What is told from a table's sheet are the lines of its endings.
use Prim.Native.Nat.{ℕ, ◌+◌, ◌-◌, ◌*◌, ◌≤◌, ◌<◌}
use mathlib.Core.Path.{◌≡◌, sym, ap, ap₂, subst, ◌∙◌}
use mathlib.Core.List.{List, [], ◌∷◌, ◌++◌, map}
use native.Mathlib.Omega.{arith}
use lib.ListN.{length, get_or, take}
use lib.Seq.{get_or-take}
use Rattle.lists.specs.Text.{decimal}
use Rattle.image.specs.Form.{head_lines}
use Rattle.image.specs.declared.Content.{Content}
use Rattle.image.specs.declared.Shape.{Shape}
use Rattle.machine.specs.Line.{line_count}
use Rattle.endtable.specs.Picks.{Ready, picks_of, picked_image, ending_from}
use Rattle.printing.specs.Lines.{line_from}
use Rattle.printing.specs.Bounds.{line_room, AllSmall}
use Rattle.printing.proofs.Short as short
use Rattle.sheet.specs.Marks.{marks_of, items_in, slot_count}
use Rattle.sheet.specs.Order.{ordered, rank_in, starts_of}
use Rattle.sheet.specs.Told.{head_mark, told_end}
use Rattle.sheet.specs.Sheet.{line_told, SlotsOf, IsSheet, Small}
use Rattle.sheet.proofs.OrderLaws as orders
use Rattle.sheet.proofs.EndLaws as ends

-- at the code's numbers
pub sheet_made : (t : List (List Content)) (cs : List ℕ) (n : ℕ) (ranks items slots starts : List ℕ) (count lines : ℕ)
    → ranks ≡ marks_of t cs (slot_count n) → items ≡ items_in t (slot_count n) → lines ≡ n + 1
    → count ≡ length (ordered (rank_in ranks) 16 (lines * 16 - 16)) → take count slots ≡ ordered (rank_in ranks) 16 (lines * 16 - 16)
    → starts ≡ starts_of slots count cs lines → IsSheet t cs n ranks items slots starts count
sheet_made t cs n ranks items slots starts count lines r i l c p s =
    let o = ap (ordered (rank_in ranks) 16) (let b : lines * 16 - 16 ≡ n * 16 = omega arith in b) in
    record {
      ranked = r;
      itemed = i;
      counted = c ∙ ap length o;
      placed = p ∙ o;
      begun = s ∙ ap (starts_of slots count cs) (let e : lines ≡ 1 + n = omega arith in e);
    }

module _ (t : List (List Content)) (cs : List ℕ) (n : ℕ) (ranks items slots starts : List ℕ) (count : ℕ) (s : IsSheet t cs n ranks items slots starts count) where
  order_is : ordered (rank_in ranks) 16 (n * 16) ≡ ordered (rank_in (marks_of t cs (slot_count n))) 16 (n * 16)
  order_is = ap (λ (r : List ℕ). ordered (rank_in r) 16 (n * 16)) s.ranked

  pub sheet_count : count ≤ slot_count n
  sheet_count = omega (arith, s.counted, orders.ordered_few (rank_in ranks) 16 (n * 16))

  pub sheet_slots : SlotsOf n slots count
  sheet_slots p l =
      let o = ordered (rank_in ranks) 16 (n * 16) in
      let a = orders.each_at (λ e. (16 ≤ e) × (e < 16 + n * 16)) o (orders.ordered_among (rank_in ranks) 16 (n * 16)) p (omega (arith, s.counted)) in
      let g : get_or slots p 0 ≡ get_or o p 0 = sym (get_or-take count slots p 0 l) ∙ ap (λ (q : List ℕ). get_or q p 0) s.placed in
      omega (arith, g, a.1)

-- the sheet of a page whose shape has one head line
module _ (t : List (List Content)) (cs : List ℕ) (z : Shape) (one : head_lines z ≡ 1) (ranks items slots starts : List ℕ) (count : ℕ) (s : IsSheet t cs z.n ranks items slots starts count)
    (ready : Ready cs (line_count z)) where
  below : (k l : ℕ) → l < line_count z → get_or (picks_of cs z k) l 0 < get_or cs l 0
  below k = ends.pick_below cs z k ready

  order' : ordered (rank_in ranks) 16 (z.n * 16) ≡ ordered (rank_in (marks_of t cs (slot_count z.n))) 16 (z.n * 16)
  order' = order_is t cs z.n ranks items slots starts count s

  -- the line that is told is the ending's
  pub sheet_line : (k : ℕ) → line_told ranks items slots count cs z k ≡ line_from t cs z k
  unfolding line_told line_from ending_from
  sheet_line k =
      ap₂ (λ (r i : List ℕ). decimal k ++ told_end r i slots (picks_of cs z k) (head_mark r (picks_of cs z k)) count) s.ranked s.itemed
      ∙ sym (ends.line_told_lem t cs z one (picks_of cs z k) (below k) ready.1 slots count k (s.placed ∙ order') (s.counted ∙ ap length order'))

  small_kept : (it : ℕ → ℕ) (q : List ℕ) → ((e : ℕ) → it e < 4294967296) → AllSmall (map it q)
  small_kept it [] h = tt
  small_kept it (e ∷ q) h = (h e, small_kept it q h)

  -- and no longer than a line is
  pub sheet_short : Small ranks items → z.n ≤ 64 → (k : ℕ) → k < 65536 → length (line_from t cs z k) ≤ line_room 64
  unfolding line_from ending_from picked_image
  sheet_short m h k l =
      let n = z.n in
      let ps = picks_of cs z k in
      let g = picked_image t ps z in
      let hd = ends.head_is t cs z one ps (below k) ready.1 in
      let it = ends.items_are t cs z one ps (below k) ready.1 in
      short.image_short 64 k g (omega arith) l
      (subst (λ (x : ℕ). x < 18446744073709551616) (sym (hd ∙ ap (λ (r : List ℕ). head_mark r ps) (sym s.ranked))) (m (get_or ps 0 0)).0)
      (subst AllSmall (sym it) (small_kept (λ e. get_or (items_in t (slot_count n)) e 0) (orders.kept (ends.sel t cs z one ps (below k) ready.1) (ordered (rank_in (marks_of t cs (slot_count n))) 16 (n * 16))) (λ e. subst (λ (i : List ℕ). get_or i e 0 < 4294967296) s.itemed (m e).1)))
      h

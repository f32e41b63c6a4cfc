-- Laws of a row: its seats, and which list it stands for after an event.
use Prim.Native.Nat.{ℕ, zero, suc, ◌+◌, ◌≤◌, ◌<◌}
use mathlib.Core.Path.{◌≡◌, refl, sym, ap, ◌∙◌}
use mathlib.Core.Bool.{Bool, true, false}
use mathlib.Core.List.{List, [], ◌∷◌, ◌++◌}
use native.Mathlib.Omega.{arith}
use native.Mathlib.Decide.{dec_lt, ℕ_discrete}
use lib.ListN.{length, set, replicate, length-append, length-set, get_or-append}
use lib.Seq.{get_or_at, get_or-set_same, get_or-set_other, set-get_or}
use borrow.Author.Tests.{lt-ltb, le-ltb}
use Rattle.lists.specs.Find.{pick, least}
use Rattle.lists.proofs.FindLaws.{least_le, least_same, least_found}
use Rattle.image.specs.Layout.{no_content, content_at, same_content}
use Rattle.image.specs.declared.Content.{Content}
use Rattle.page.specs.Contents.{joins}
use Rattle.moments.specs.Seats.{is_at, seat_of}
use Rattle.endtable.specs.Rows.{row_joined, count_joined, joined_row, row_of}
use Rattle.endtable.specs.declared.row.Row.{Row}
use Rattle.endtable.specs.Opened.{opened_row, opened_count}
use Rattle.endtable.specs.Tables.{Held}
use Rattle.moments.proofs.Joins as joined

-- ---- seats

pub seat_le : (row : List Content) (n : ℕ) (c : Content) → seat_of row n c ≤ n
unfolding seat_of
seat_le row n c = omega (arith, least_le (is_at row c) n 0)

pub seat_same : (row l : List Content) (n : ℕ) (c : Content) → ((j : ℕ) → j < n → content_at row j ≡ content_at l j) → seat_of row n c ≡ seat_of l n c
unfolding seat_of
seat_same row l n c h = least_same (is_at row c) (is_at l c) n 0 (λ i p q. ap (λ (a : Content). same_content a c) (h i (omega arith)))

pub seat_is : (row : List Content) (n : ℕ) (c : Content) → seat_of row n c < n → content_at row (seat_of row n c) ≡ c
unfolding seat_of
seat_is row n c h = joined.same_equal (content_at row (least (is_at row c) n 0)) c (least_found (is_at row c) n 0 (omega arith))

-- ---- the row and its count by cases

module _ (row : List Content) (n : ℕ) (c : Content) where
  row_full : 16 ≤ n → row_joined row n c ≡ row
  unfolding row_joined
  row_full h = rw (le-ltb n 16 h)

  row_set : n < 16 → row_joined row n c ≡ set row (seat_of row n c) c
  unfolding row_joined
  row_set h = rw (lt-ltb n 16 h)

  -- a content that the row has is written over itself
  row_again : n < 16 → seat_of row n c < n → row_joined row n c ≡ row
  row_again h p = row_set h ∙ ap (set row (seat_of row n c)) (sym (seat_is row n c p)) ∙ set-get_or row (seat_of row n c) no_content

  count_over : 16 < n → count_joined row n c ≡ n
  unfolding count_joined
  count_over h = rw (lt-ltb 16 n h)

  count_again : n ≤ 16 → seat_of row n c < n → count_joined row n c ≡ n
  unfolding count_joined
  count_again h p = rw (le-ltb 16 n h, lt-ltb (seat_of row n c) n p)

  count_more : n ≤ 16 → n ≤ seat_of row n c → count_joined row n c ≡ n + 1
  unfolding count_joined
  count_more h p = rw (le-ltb 16 n h, le-ltb (seat_of row n c) n p)

-- ---- the row and its count as one

module _ (r : Row) (c : Content) where
  pub joined_over : 16 < r.count → r ≡ joined_row r c false
  unfolding joined_row
  joined_over h = sym (rw (row_full r.at r.count c (omega arith), count_over r.at r.count c h))

  -- the row has the content
  pub joined_again : r.count ≤ 16 → seat_of r.at r.count c < r.count → r ≡ joined_row r c false
  unfolding joined_row
  joined_again h p = by (dec_lt r.count 16)
    where
      by : Dec (r.count < 16) → r ≡ record { count = count_joined r.at r.count c; at = row_joined r.at r.count c }
      by (yes q) = sym (rw (row_again r.at r.count c q p, count_again r.at r.count c h p))
      by (no q) = sym (rw (row_full r.at r.count c (omega arith), count_again r.at r.count c h p))

  -- a new content, and there is room; or there is none
  pub joined_new : r.count < 16 → r.count ≤ seat_of r.at r.count c → record { count = r.count + 1; at = set r.at r.count c } ≡ joined_row r c false
  unfolding joined_row
  joined_new h p =
      let e : r.count ≡ seat_of r.at r.count c = omega (arith, seat_le r.at r.count c) in
      sym (rw (row_set r.at r.count c h, count_more r.at r.count c (omega arith) p, ← e))

  pub joined_more : r.count ≡ 16 → r.count ≤ seat_of r.at r.count c → record { count = r.count + 1; at = r.at } ≡ joined_row r c false
  unfolding joined_row
  joined_more h p = sym (rw (row_full r.at r.count c (omega arith), count_more r.at r.count c (omega arith) p))

-- ---- what the row stands for after an event

module _ (row : List Content) (n : ℕ) (l : List Content) (c : Content) (h : Held row n l) where
  -- the row's seat is the list's, where the row has the whole list
  list_seat : n ≡ length l → n ≤ 16 → seat_of row n c ≡ seat_of l (length l) c
  list_seat e p = seat_same row l n c (λ j q. h.same j (omega arith) (omega arith)) ∙ ap (λ (k : ℕ). seat_of l k c) e

  in_place : (j : ℕ) → j < 16 → j < length l → content_at row j ≡ content_at (joins l c) j
  in_place j p q = h.same j p q ∙ sym (joined.joins_at l c j q)

  -- the list has the content
  old : n ≡ length l → n ≤ 16 → seat_of row n c < n → row_joined row n c ≡ row → Held (row_joined row n c) (count_joined row n c) (joins l c)
  old e p q r = rw (r, count_again row n c p q, joined.joins_has l c (omega (arith, list_seat e p))) h

  -- a new content, and there is room
  new : n ≡ length l → n < 16 → n ≤ seat_of row n c → Held (row_joined row n c) (count_joined row n c) (joins l c)
  new e p q =
      rw (row_set row n c p, count_more row n c (omega arith) q, joined.joins_new l c (omega (arith, list_seat e (omega arith)))) record {
        wide = length-set row (seat_of row n c) c ∙ h.wide;
        counted = omega (arith, length-append l (c ∷ []));
        same = λ j r s. at j r (omega (arith, length-append l (c ∷ []))) (ℕ_discrete j n);
      }
    where
      z : seat_of row n c ≡ n
      z = omega (arith, seat_le row n c)

      at : (j : ℕ) → j < 16 → j < suc (length l) → Dec (j ≡ n) → content_at (set row (seat_of row n c) c) j ≡ content_at (l ++ (c ∷ [])) j
      at j r s (yes i) =
          rw (i, z) (get_or-set_same row n c no_content (omega (arith, h.wide)) ∙ sym (get_or_at l c [] no_content n (sym e)))
      at j r s (no ne) =
          rw (z)
          (get_or-set_other row n j c no_content ne ∙ h.same j r (omega arith) ∙ sym (get_or-append l (c ∷ []) no_content j (omega arith)))

  -- the seventeenth content
  last : n ≡ 16 → length l ≡ 16 → n ≤ seat_of row n c → Held (row_joined row n c) (count_joined row n c) (joins l c)
  last e f q =
      rw (row_full row n c (omega arith), count_more row n c (omega arith) q) record {
        wide = h.wide;
        counted = omega (arith, ap length (joined.joins_new l c (omega (arith, list_seat (omega arith) (omega arith)))), length-append l (c ∷ []));
        same = λ j r s. in_place j r (omega arith);
      }

  -- more than the row can hold
  over : 16 < n → Held (row_joined row n c) (count_joined row n c) (joins l c)
  over p =
      rw (row_full row n c (omega arith), count_over row n c p) record {
        wide = h.wide;
        counted = omega (arith, h.counted, joined.joins_length l c);
        same = λ j r s. in_place j r (omega (arith, h.counted));
      }

  pub held_joined : Held (row_joined row n c) (count_joined row n c) (joins l c)
  held_joined = by (dec_lt (length l) 16) (dec_lt (seat_of row n c) n) (dec_lt 16 n)
    where
      by : Dec (length l < 16) → Dec (seat_of row n c < n) → Dec (16 < n) → Held (row_joined row n c) (count_joined row n c) (joins l c)
      by (yes p) (yes q) d = let e : n ≡ length l = omega (arith, h.counted) in old e (omega arith) q (row_again row n c (omega arith) q)
      by (yes p) (no q) d = let e : n ≡ length l = omega (arith, h.counted) in new e (omega arith) (omega arith)
      by (no p) s (yes d) = over d
      by (no p) (yes q) (no d) =
          let e : n ≡ length l = omega (arith, h.counted) in
          old e (omega arith) q (row_full row n c (omega arith))
      by (no p) (no q) (no d) = let e : n ≡ length l = omega (arith, h.counted) in last (omega arith) (omega arith) (omega arith)

-- a line that was persisted has one content
pub held_cleared : (row : List Content) (c : Content) → length row ≡ 16 → Held (set row 0 c) 1 (c ∷ [])
held_cleared row c h = record {
  wide = length-set row 0 c ∙ h;
  counted = refl;
  same = λ j p q. let e : j ≡ 0 = omega arith in rw (e) (get_or-set_same row 0 c no_content (omega arith));
}

-- a row of one content
pub held_one : (c : Content) → Held (row_of c).at (row_of c).count (c ∷ [])
unfolding row_of
held_one c = record { wide = refl; counted = refl; same = λ j p q. let e : j ≡ 0 = omega arith in rw e }

-- after a start: the persisted content, and the cached one where it is another
pub held_opened : (p c : Content) → Held (opened_row p c) (opened_count p c) (joins (p ∷ []) c)
unfolding opened_row opened_count
held_opened p c = by (same_content p c) refl
  where
    at : (j : ℕ) → j < 2 → content_at (p ∷ c ∷ replicate 14 no_content) j ≡ content_at (p ∷ c ∷ []) j
    at zero h = refl
    at (suc zero) h = refl
    at (suc (suc j)) h = absurd (omega arith)

    by : (b : Bool) → same_content p c ≡ b → Held (p ∷ c ∷ replicate 14 no_content) (pick b 1 2) (joins (p ∷ []) c)
    by true e = rw (joined.joins_first p [] c e) record { wide = refl; counted = refl; same = λ j q r. let z : j ≡ 0 = omega arith in rw z }
    by false e = rw (joined.joins_later p [] c e, joined.joins_none c) record { wide = refl; counted = refl; same = λ j q r. at j r }

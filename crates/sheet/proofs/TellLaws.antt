-- The end of a line, slot by slot.
use Prim.Native.Nat.{ℕ, zero, suc, ◌+◌, ◌-◌, ◌*◌, ◌/◌, ◌%◌, ◌≤◌, ◌<◌}
use mathlib.Core.Path.{◌≡◌, refl, sym, ap, ap₂, subst, ◌∙◌}
use mathlib.Core.Bool.{Bool}
use mathlib.Core.List.{List, [], ◌∷◌, ◌++◌, append_assoc, append-nil}
use mathlib.Core.Logic.{◌⊎◌, inl, inr}
use native.Mathlib.Omega.{arith}
use native.Mathlib.Decide.{ℕ_discrete}
use native.Mathlib.Numerals.{add-one}
use native.Mathlib.Nat.{eq-or-lt_of_le, add-zero}
use borrow.Author.Tests.{eq-eqb, ne_eqb, lt-ltb, le-ltb}
use lib.Dec.{ltb}
use Rattle.lists.specs.Find.{both}
use lib.ListN.{length, get_or, set, take, drop, length-append}
use lib.Seq.{length-take-le, take_at, take-take, take-length, take-append-le, get_or-set_same, get_or-set_other}
use Rattle.lists.specs.Tab.{joined, over}
use Rattle.lists.specs.Text.{text, decimal}
use Rattle.lists.proofs.TabLaws as tabs
use Rattle.printing.proofs.Written as written
use Rattle.sheet.specs.Told.{piece_if, piece_of, piece_at, told_to, told_end, closing, Told, Closed}

-- ---- one slot

pub piece_other : (d j head rank item : ℕ) → (d ≡ j → ⊥) → [] ≡ piece_of d j head rank item
unfolding piece_of
piece_other d j head rank item h = sym (ap (λ (b : Bool). piece_if item (both b (ltb head rank))) (ne_eqb d j h))

pub piece_low : (d j head rank item : ℕ) → d ≡ j → rank ≤ head → [] ≡ piece_of d j head rank item
unfolding piece_of
piece_low d j head rank item e h = sym (ap₂ (λ (b x : Bool). piece_if item (both b x)) (eq-eqb d j e) (le-ltb head rank h))

pub piece_some : (d j head rank item : ℕ) → d ≡ j → head < rank → 32 ∷ decimal item ≡ piece_of d j head rank item
unfolding piece_of text
piece_some d j head rank item e h = sym (ap₂ (λ (b x : Bool). piece_if item (both b x)) (eq-eqb d j e) (lt-ltb head rank h))

pub put_nothing : (l : List ℕ) (p : ℕ) (s : List ℕ) → [] ≡ s → ((p ≡ p + length s) × (p ≤ p + 11)) × (l ≡ over l p s)
unfolding over
put_nothing l p s e = ((omega (arith, ap length e), omega arith), ap (over l p) e)

-- what is written over a buffer behind what stands in its front
pub over_front : (l : List ℕ) (p : ℕ) (s : List ℕ) → p + length s ≤ length l → take (p + length s) (over l p s) ≡ take p l ++ s
over_front l p s h =
    ap (take (p + length s)) (tabs.over_is l p s h)
    ∙ take_at (take p l ++ s) (drop (p + length s) l) (p + length s) (length-append (take p l) s ∙ ap (λ (n : ℕ). n + length s) (length-take-le p l (omega arith)))

-- ---- one slot after the other

module _ (ranks items slots ps : List ℕ) (head : ℕ) where
  pub told_more : (c : ℕ) → told_to ranks items slots ps head (c + 1) ≡ told_to ranks items slots ps head c ++ piece_at ranks items slots ps head c
  unfolding told_to joined
  told_more c =
      ap (λ (k : ℕ). (text " " ++ decimal head) ++ joined (piece_at ranks items slots ps head) k) (add-one c)
      ∙ sym (append_assoc (text " " ++ decimal head) (joined (piece_at ranks items slots ps head) c) (piece_at ranks items slots ps head c))

  pub told_next : (c p q : ℕ) (end ends end' : List ℕ) (s : List ℕ) → Told ranks items slots ps head c end ends → p ≡ get_or ends c 0
      → s ≡ piece_at ranks items slots ps head c → q ≡ p + length s → end' ≡ over end p s → p + length s ≤ length end → c + 1 < length ends → q ≤ p + 11
      → Told ranks items slots ps head (c + 1) end' (set ends (c + 1) q)
  told_next c p q end ends end' s t e z n w r l m = record {
    begins = λ k h. by k (eq-or-lt_of_le h);
    short = λ k h. low k (eq-or-lt_of_le h);
    text =
        ap (λ (k : ℕ). take k end') (get_or-set_same ends (c + 1) q 0 l ∙ n)
        ∙ ap (take (p + length s)) w
        ∙ over_front end p s r
        ∙ ap₂ (λ (a b : List ℕ). a ++ b) (ap (λ (k : ℕ). take k end) e ∙ t.text) z
        ∙ sym (told_more c);
  }
    where
      by : (k : ℕ) → (k ≡ c + 1) ⊎ (k < c + 1) → get_or (set ends (c + 1) q) k 0 ≡ length (told_to ranks items slots ps head k)
      by k (inl i) =
          ap (λ (k : ℕ). get_or (set ends (c + 1) q) k 0) i
          ∙ get_or-set_same ends (c + 1) q 0 l
          ∙ n
          ∙ ap₂ (λ (a b : ℕ). a + b) (e ∙ t.begins c (omega arith)) (ap length z)
          ∙ sym (length-append (told_to ranks items slots ps head c) (piece_at ranks items slots ps head c))
          ∙ sym (ap length (told_more c))
          ∙ ap (λ (k : ℕ). length (told_to ranks items slots ps head k)) (sym i)
      by k (inr i) = get_or-set_other ends (c + 1) k q 0 (omega arith) ∙ t.begins k (omega arith)

      low : (k : ℕ) → (k ≡ c + 1) ⊎ (k < c + 1) → get_or (set ends (c + 1) q) k 0 ≤ 21 + 11 * k
      low k (inl i) =
          let g : get_or (set ends (c + 1) q) k 0 ≡ q = ap (λ (k : ℕ). get_or (set ends (c + 1) q) k 0) i ∙ get_or-set_same ends (c + 1) q 0 l in
          omega (arith, g, m, e, t.short c (omega arith))
      low k (inr i) = omega (arith, get_or-set_other ends (c + 1) k q 0 (omega arith), t.short k (omega arith))

-- ---- the first slot, and the line's end

module _ (ranks items slots ps : List ℕ) (head : ℕ) where
  told_none : told_to ranks items slots ps head 0 ≡ text " " ++ decimal head
  unfolding told_to joined
  told_none = append-nil (text " " ++ decimal head)

  pub told_first : (end ends : List ℕ) (p : ℕ) (end' : List ℕ) → p ≡ length (text " " ++ decimal head) → end' ≡ over end 0 (text " " ++ decimal head)
      → p ≤ 21 → p ≤ length end → 0 < length ends → Told ranks items slots ps head 0 end' (set ends 0 p)
  told_first end ends p end' n w m r l =
      let g = get_or-set_same ends 0 p 0 l in
      let here : get_or (set ends 0 p) 0 0 ≡ length (told_to ranks items slots ps head 0) = g ∙ n ∙ sym (ap length told_none) in
      record {
        begins = λ k h. let z : k ≡ 0 = omega arith in ap (λ (k : ℕ). get_or (set ends 0 p) k 0) z ∙ here ∙ ap (λ (k : ℕ). length (told_to ranks items slots ps head k)) (sym z);
        short = λ k h. let z : k ≡ 0 = omega arith in omega (arith, ap (λ (k : ℕ). get_or (set ends 0 p) k 0) z, g, m);
        text =
            ap₂ (λ (k : ℕ) (z : List ℕ). take k z) (g ∙ n ∙ (let o : length (text " " ++ decimal head) ≡ 0 + length (text " " ++ decimal head) = omega arith in o)) w
            ∙ over_front end 0 (text " " ++ decimal head) (omega (arith, n))
            ∙ sym told_none;
      }

  -- what is written behind changes nothing of it
  pub told_over : (c : ℕ) (end ends : List ℕ) (s : List ℕ) → Told ranks items slots ps head c end ends → get_or ends c 0 + length s ≤ length end
      → Told ranks items slots ps head c (over end (get_or ends c 0) s) ends
  told_over c end ends s t h = record {
    begins = t.begins;
    short = t.short;
    text =
        ap (take (get_or ends c 0)) (tabs.over_is end (get_or ends c 0) s h ∙ append_assoc (take (get_or ends c 0) end) s (drop (get_or ends c 0 + length s) end))
        ∙ take_at (take (get_or ends c 0) end) (s ++ drop (get_or ends c 0 + length s) end) (get_or ends c 0) (length-take-le (get_or ends c 0) end (omega arith))
        ∙ t.text;
  }

  pub told_end_lem : (c : ℕ) (end ends : List ℕ) (s : List ℕ) → Told ranks items slots ps head c end ends → get_or ends c 0 + length s ≤ length end
      → s ≡ closing (joined (piece_at ranks items slots ps head) c)
      → take (get_or ends c 0 + length s) (over end (get_or ends c 0) s) ≡ told_end ranks items slots ps head c
  unfolding told_end
  told_end_lem c end ends s t h e = over_front end (get_or ends c 0) s h ∙ ap₂ (λ (a b : List ℕ). a ++ b) t.text e

  length_told : (c : ℕ) → length (told_to ranks items slots ps head c) ≡ length (text " " ++ decimal head) + length (joined (piece_at ranks items slots ps head) c)
  unfolding told_to
  length_told c = length-append (text " " ++ decimal head) (joined (piece_at ranks items slots ps head) c)

  close_none : (l : List ℕ) → length l ≡ 0 → 32 ∷ 45 ∷ 10 ∷ [] ≡ closing l
  unfolding text
  close_none [] h = refl
  close_none (x ∷ l) h = absurd (omega arith)

  close_some : (l : List ℕ) → (length l ≡ 0 → ⊥) → 10 ∷ [] ≡ closing l
  close_some [] h = absurd (h refl)
  close_some (x ∷ l) h = refl

  -- nothing was told where the last slot begins where the first does
  pub told_nothing : (c : ℕ) (end ends : List ℕ) → Told ranks items slots ps head c end ends → get_or ends c 0 ≡ get_or ends 0 0
      → 32 ∷ 45 ∷ 10 ∷ [] ≡ closing (joined (piece_at ranks items slots ps head) c)
  told_nothing c end ends t e =
      close_none (joined (piece_at ranks items slots ps head) c)
      (omega (arith, e, t.begins c (omega arith), t.begins 0 (omega arith), ap length told_none, length_told c))

  pub told_something : (c : ℕ) (end ends : List ℕ) → Told ranks items slots ps head c end ends → (get_or ends c 0 ≡ get_or ends 0 0 → ⊥)
      → 10 ∷ [] ≡ closing (joined (piece_at ranks items slots ps head) c)
  told_something c end ends t e =
      close_some (joined (piece_at ranks items slots ps head) c)
      (λ z. e (omega (arith, z, t.begins c (omega arith), t.begins 0 (omega arith), ap length told_none, length_told c)))

  -- the line once it is closed
  pub told_closed : (c : ℕ) (end ends end' : List ℕ) (p begin r : ℕ) → Told ranks items slots ps head c end ends → p ≡ get_or ends c 0 → begin ≡ get_or ends 0 0
      → p + 3 ≤ length end → Closed end p begin end' r
      → Told ranks items slots ps head c end' ends × ((r ≤ p + 3) × (take r end' ≡ told_end ranks items slots ps head c))
  unfolding text
  told_closed c end ends end' p begin r t e f h k = by (ℕ_discrete p begin)
    where
      with : (s : List ℕ) → length s ≤ 3 → r ≡ p + length s → end' ≡ over end p s → s ≡ closing (joined (piece_at ranks items slots ps head) c)
          → Told ranks items slots ps head c end' ends × ((r ≤ p + 3) × (take r end' ≡ told_end ranks items slots ps head c))
      with s l z w y =
          let w' : end' ≡ over end (get_or ends c 0) s = w ∙ ap (λ (k : ℕ). over end k s) e in (
            subst (λ (x : List ℕ). Told ranks items slots ps head c x ends) (sym w') (told_over c end ends s t (omega (arith, e))),
            (omega (arith, z), ap₂ (λ (k : ℕ) (x : List ℕ). take k x) (z ∙ ap (λ (k : ℕ). k + length s) e) w' ∙ told_end_lem c end ends s t (omega (arith, e)) y),
          )

      by : Dec (p ≡ begin) → Told ranks items slots ps head c end' ends × ((r ≤ p + 3) × (take r end' ≡ told_end ranks items slots ps head c))
      by (yes d) = with (32 ∷ 45 ∷ 10 ∷ []) (omega arith) (k.0 d).0 (k.0 d).1 (told_nothing c end ends t (sym e ∙ d ∙ f))
      by (no d) = with (10 ∷ []) (omega arith) (k.1 d).0 (k.1 d).1 (told_something c end ends t (λ z. d (e ∙ z ∙ sym f)))

-- ---- a blank and a number

pub put_spaced : (l : List ℕ) (p : ℕ) (x q : ℕ) (m : List ℕ) → (q ≡ p + 1 + length (decimal x)) × (m ≡ over (set l p 32) (p + 1) (decimal x))
    → (q ≡ p + length (32 ∷ decimal x)) × (m ≡ over l p (32 ∷ decimal x))
put_spaced l p x q m h = (omega (arith, h.0), h.1 ∙ ap (λ (z : List ℕ). over z (p + 1) (decimal x)) (written.one l p 32) ∙ tabs.over_append l p (32 ∷ []) (decimal x))

-- ---- what stands before a slot, and before one that a turn may change

module _ (ranks items slots ps : List ℕ) (head : ℕ) where
  abbrev up_to : ℕ → List ℕ
  up_to c = told_to ranks items slots ps head c

  up_grows : (s d : ℕ) → length (up_to s) ≤ length (up_to (s + d))
  up_grows s zero = omega (arith, ap (λ (k : ℕ). length (up_to k)) (add-zero s))
  up_grows s (suc d) =
      let e : s + suc d ≡ s + d + 1 = omega arith in
      omega (arith, up_grows s d, ap (λ (k : ℕ). length (up_to k)) e, ap length (told_more ranks items slots ps head (s + d)), length-append (up_to (s + d)) (piece_at ranks items slots ps head (s + d)))

  up_front : (s d : ℕ) → take (length (up_to s)) (up_to (s + d)) ≡ up_to s
  up_front s zero = ap (λ (k : ℕ). take (length (up_to s)) (up_to k)) (add-zero s) ∙ take-length (up_to s)
  up_front s (suc d) =
      let e : s + suc d ≡ s + d + 1 = omega arith in
      ap (λ (k : ℕ). take (length (up_to s)) (up_to k)) e
      ∙ ap (take (length (up_to s))) (told_more ranks items slots ps head (s + d))
      ∙ take-append-le (length (up_to s)) (up_to (s + d)) (piece_at ranks items slots ps head (s + d)) (up_grows s d)
      ∙ up_front s d

  -- what is told up to c is told up to s before it
  pub told_back : (s c : ℕ) (end ends : List ℕ) → s ≤ c → Told ranks items slots ps head c end ends → Told ranks items slots ps head s end ends
  told_back s c end ends h t =
      let e : s + (c - s) ≡ c = omega arith in
      let n = t.begins s h in
      let m = t.begins c (omega arith) in
      let l : get_or ends s 0 ≤ get_or ends c 0 = omega (arith, n, m, up_grows s (c - s), ap (λ (k : ℕ). length (up_to k)) e) in
      record {
        begins = λ p g. t.begins p (omega arith);
        short = λ p g. t.short p (omega arith);
        text =
            sym (take-take (get_or ends s 0) (get_or ends c 0) end l)
            ∙ ap₂ (λ (k : ℕ) (z : List ℕ). take k z) n t.text
            ∙ ap (λ (k : ℕ). take (length (up_to s)) (up_to k)) (sym e)
            ∙ up_front s (c - s);
      }

  -- other choices that are the same for the slots before place s
  told_same : (ps' : List ℕ) (s p : ℕ) → p ≤ s
      → ((q : ℕ) → q < s → get_or ps (get_or slots q 0 / 16) 0 ≡ get_or ps' (get_or slots q 0 / 16) 0)
      → told_to ranks items slots ps head p ≡ told_to ranks items slots ps' head p
  unfolding told_to piece_at
  told_same ps' s p h e =
      ap (λ (z : List ℕ). (text " " ++ decimal head) ++ z)
      (tabs.joined_same (piece_at ranks items slots ps head) (piece_at ranks items slots ps' head) p
      (λ q g. ap (λ (d : ℕ). piece_of d (get_or slots q 0 % 16) head (get_or ranks (get_or slots q 0) 0) (get_or items (get_or slots q 0) 0)) (e q (omega arith))))

  pub told_other : (ps' : List ℕ) (s : ℕ) (end ends : List ℕ) → ((q : ℕ) → q < s → get_or ps (get_or slots q 0 / 16) 0 ≡ get_or ps' (get_or slots q 0 / 16) 0)
      → Told ranks items slots ps head s end ends → Told ranks items slots ps' head s end ends
  told_other ps' s end ends e t = record {
    begins = λ p g. t.begins p g ∙ ap length (told_same ps' s p g e);
    short = t.short;
    text = t.text ∙ told_same ps' s s (omega arith) e;
  }

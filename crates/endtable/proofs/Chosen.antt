-- The ending that the code picks is the ending numbered k.
use Prim.Native.Nat.{ℕ, zero, suc, ◌+◌, ◌*◌, ◌/◌, ◌%◌, ◌≤◌, ◌<◌}
use mathlib.Core.Path.{◌≡◌, refl, sym, ap, ap₂, subst, ◌∙◌}
use mathlib.Core.List.{List, [], ◌∷◌, ◌++◌}
use native.Mathlib.Omega.{arith}
use native.Mathlib.Nat.{div-lt_iff_lt-mul}
use lib.ListN.{length, get_or, take, drop, get_or-append}
use lib.Seq.{get_or_at, take-suc, take_all}
use Rattle.lists.specs.Tab.{tab}
use Rattle.lists.proofs.TabLaws as tabs
use Rattle.image.specs.Layout.{no_content, no_contents, content_at}
use Rattle.image.specs.Form.{head_lines, own_threads}
use Rattle.image.specs.declared.Shape.{Shape}
use Rattle.image.specs.declared.Content.{Content}
use Rattle.image.specs.declared.Image.{Image}
use Rattle.machine.specs.Line.{line_count}
use Rattle.image.proofs.HeadLaws.{heads_same}
use Rattle.page.specs.Endings.{choices, product, image_of, ending}
use Rattle.endtable.specs.Opened.{blank_counts}
use Rattle.endtable.specs.Picks.{prod, digits, Ready, picked_at, picked_node, picked_image, picks_of, ending_from}
use Rattle.endtable.specs.Tables.{Tables}
use Rattle.endtable.proofs.Digits as digits
use Rattle.moments.proofs.Choices as choices

-- the counts of the first n lists are their lengths
abbrev pub Lengths : List ℕ → List (List Content) → ℕ → Type 0
Lengths cs lists n = (l : ℕ) → l < n → get_or cs l 0 ≡ length (get_or lists l [])

module _ (cs : List ℕ) (lists : List (List Content)) where
  product_next : (n : ℕ) → n < length lists → product (take (suc n) lists) ≡ product (take n lists) * length (get_or lists n [])
  product_next n h = ap product (take-suc lists n [] h) ∙ choices.product_last (take n lists) (get_or lists n [])

  pub prod_is : (n : ℕ) → n ≤ length lists → Lengths cs lists n → prod cs n ≡ product (take n lists)
  unfolding prod product
  prod_is zero h e = refl
  prod_is (suc n) h e =
      ap₂ ◌*◌ (prod_is n (omega arith) (λ l p. e l (omega arith))) (e n (omega arith)) ∙ sym (product_next n h)

  picked_same : (ps qs : List ℕ) (n : ℕ) → ((l : ℕ) → l < n → get_or ps l 0 ≡ get_or qs l 0) → tab (picked_at lists ps) n ≡ tab (picked_at lists qs) n
  unfolding picked_at
  picked_same ps qs n h = tabs.tab_same (picked_at lists ps) (picked_at lists qs) n (λ l p. ap (content_at (get_or lists l [])) (h l p))

  -- the last digit's content, and those of the digits before it
  picked_last : (n k : ℕ) → get_or cs n 0 ≡ length (get_or lists n [])
      → content_at (get_or lists n []) (k % length (get_or lists n [])) ≡ picked_at lists (digits cs n (k / get_or cs n 0) ++ (k % get_or cs n 0 ∷ [])) n
  unfolding picked_at
  picked_last n k f =
      ap (λ (x : ℕ). content_at (get_or lists n []) (k % x)) (sym f)
      ∙ ap (content_at (get_or lists n [])) (sym (get_or_at (digits cs n (k / get_or cs n 0)) (k % get_or cs n 0) [] 0 n (digits.length_digits cs n (k / get_or cs n 0))))

  picked_before : (n k x : ℕ) → tab (picked_at lists (digits cs n k)) n ≡ tab (picked_at lists (digits cs n k ++ (x ∷ []))) n
  picked_before n k x =
      picked_same (digits cs n k) (digits cs n k ++ (x ∷ [])) n (λ l p. sym (get_or-append (digits cs n k) (x ∷ []) 0 l (omega (arith, digits.length_digits cs n k))))

  -- the choice numbered k has in each line the content that k's digit names
  pub chosen : (n k : ℕ) → n ≤ length lists → Lengths cs lists n → k < prod cs n → get_or (choices (take n lists)) k [] ≡ tab (picked_at lists (digits cs n k)) n
  unfolding tab digits prod choices
  chosen zero k h e p = let z : k ≡ 0 = omega arith in rw z
  chosen (suc n) k h e p =
      let c = get_or cs n 0 in
      let line = get_or lists n [] in
      let f : c ≡ length line = e n (omega arith) in
      let q : k / c < prod cs n = (div-lt_iff_lt-mul (choices.factor_pos k (prod cs n) c p)).1 p in
      let ih = chosen n (k / c) (omega arith) (λ l r. e l (omega arith)) q in
      ap (λ z. get_or (choices z) k []) (take-suc lists n [] h)
      ∙ choices.choices_end (take n lists) line k (subst (λ (x : ℕ). k < x) (ap₂ ◌*◌ (prod_is n (omega arith) (λ l r. e l (omega arith))) f) p)
      ∙ ap₂ (λ z (x : Content). z ++ (x ∷ []))
      (ap (λ (x : ℕ). get_or (choices (take n lists)) (k / x) []) (sym f) ∙ ih ∙ picked_before n (k / c) (k % c))
      (picked_last n k f)

  -- of all lines
  pub chosen_all : (k : ℕ) → Lengths cs lists (length lists) → k < product lists → get_or (choices lists) k [] ≡ tab (picked_at lists (digits cs (length lists) k)) (length lists)
  chosen_all k e p =
      ap (λ z. get_or (choices z) k []) (sym (take_all (length lists) lists (omega arith)))
      ∙ chosen (length lists) k (omega arith) e (omega (arith, prod_all e))
    where
      prod_all : Lengths cs lists (length lists) → prod cs (length lists) ≡ product lists
      prod_all e = prod_is (length lists) (omega arith) e ∙ ap product (take_all (length lists) lists (omega arith))

-- ---- the image

-- no line has more contents than its row holds, and none has none
pub record Fits (lists : List (List Content)) : Type 0 where
  pub some : (l : ℕ) → l < length lists → 0 < length (get_or lists l [])
  pub few : (l : ℕ) → l < length lists → length (get_or lists l []) ≤ 16

abbrev made : Shape → List ℕ → List Content → Image
made z x y = record { form = z.form; n = z.n; t = own_threads z; heads = x; nodes = y }

module _ (t : List (List Content)) (cs : List ℕ) (lists : List (List Content)) (h : Tables t cs lists) where
  -- then the counts are the lengths, and the endings can be picked
  pub lengths : Fits lists → Lengths cs lists (length lists)
  lengths f l p = omega (arith, (h.held l p).counted, f.few l p)

  pub ready : Fits lists → Ready cs (length lists)
  ready f = ((λ l p. omega (arith, lengths f l p, f.some l p)), (λ l p. omega (arith, lengths f l p, f.few l p)))

  -- what the picks name in the table is what they name in the lists
  picked_table : (f : Fits lists) (k : ℕ) (rest : List ℕ) (l : ℕ) → l < length lists
      → picked_at t (digits cs (length lists) k ++ rest) l ≡ picked_at lists (digits cs (length lists) k) l
  unfolding picked_at
  picked_table f k rest l p =
      let d = get_or (digits cs (length lists) k) l 0 in
      let q : d < get_or cs l 0 = digits.digit_below cs (length lists) k (ready f).0 l p in
      ap (content_at (get_or t l [])) (get_or-append (digits cs (length lists) k) rest 0 l (omega (arith, digits.length_digits cs (length lists) k)))
      ∙ (h.held l p).same d (omega (arith, (ready f).1 l p)) (omega (arith, lengths f l p))

  pub ending_is : (z : Shape) (k : ℕ) → length lists ≡ line_count z → Fits lists → k < product lists → ending_from t cs z k ≡ ending z lists k
  unfolding ending_from picks_of picked_image ending image_of
  ending_is z k e f p =
      ap₂ (made z) (heads_same z (λ j. (picked_at t ps j).index) (λ j. (content_at (get_or (choices lists) k []) j).index) (λ j h. ap (λ (x : Content). x.index) (at j (omega arith))))
      (tabs.front_same (picked_node t ps z) (λ i. content_at (get_or (choices lists) k []) (head_lines z + i)) z.n no_contents (λ i q. at (head_lines z + i) (omega arith)))
    where
      ps : List ℕ
      ps = digits cs (line_count z) k ++ drop (line_count z) blank_counts

      at : (l : ℕ) → l < line_count z → picked_at t ps l ≡ content_at (get_or (choices lists) k []) l
      at l q =
          ap (λ (x : ℕ). picked_at t (digits cs x k ++ drop x blank_counts) l) (sym e)
          ∙ picked_table f k (drop (length lists) blank_counts) l (omega arith)
          ∙ sym
          (ap (λ z. content_at z l) (chosen_all cs lists k (lengths f) p)
          ∙ tabs.get_or_tab (picked_at lists (digits cs (length lists) k)) (length lists) l no_content (omega arith))

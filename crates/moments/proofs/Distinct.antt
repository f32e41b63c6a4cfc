-- The endings are distinct: a line's list has no repeats, so the choices have none, and two choices give two images.
use Prim.Native.Nat.{ℕ, zero, suc, ◌+◌, ◌-◌, ◌*◌, ◌/◌, ◌%◌, ◌≤◌, ◌<◌}
use mathlib.Core.Path.{◌≡◌, refl, sym, ap, ap₂, subst, ◌∙◌}
use mathlib.Core.Bool.{true, false}
use mathlib.Core.List.{List, [], ◌∷◌, ◌++◌, map}
use native.Mathlib.Omega.{arith}
use native.Mathlib.Decide.{dec_lt}
use native.Mathlib.Nat.{mod-lt, div-lt_iff_lt-mul, div-add-mod'}
use lib.ListN.{length, get_or, drop, length-append, length-map, get_or-append}
use lib.Seq.{get_or_at, ext_get_or}
use Rattle.lists.proofs.FindLaws as find
use Rattle.lists.proofs.TabLaws as tabs
use Rattle.image.specs.Layout.{no_content, no_contents, content_at, same_content, no_heads, head_in}
use Rattle.image.specs.Form.{head_lines}
use Rattle.image.specs.declared.Shape.{Shape}
use Rattle.image.specs.declared.Content.{Content}
use Rattle.image.specs.declared.Image.{Image}
use Rattle.machine.specs.Line.{shape_of, line_count, line_at, head_content, cached_at, persisted_at}
use Rattle.machine.specs.declared.Line.{Line}
use Rattle.machine.specs.declared.Line.TheVariants.{OfHead as of_head}
use Rattle.machine.specs.declared.Machine.{Machine}
use Rattle.image.proofs.HeadLaws.{heads_at_lem}
use Rattle.machine.proofs.LineLaws.{line_head}
use Rattle.schedule.specs.Run.{Bench}
use Rattle.page.specs.Contents.{joins, gathered, contents_of, table_of}
use Rattle.page.specs.Endings.{choices, product, image_of, endings}
use Rattle.moments.specs.Seats.{is_at, seat_of}
use Rattle.moments.specs.Distinct.{Distinct}
use Rattle.moments.proofs.Joins as joined
use Rattle.moments.proofs.Blocks as blocks
use Rattle.moments.proofs.Choices as choices
use Rattle.moments.proofs.Moments as moments

-- ---- a line's list

-- where the search finds no seat, no place has the content
not_there : (l : List Content) (c : Content) → length l ≤ seat_of l (length l) c → (i : ℕ) → i < length l → content_at l i ≡ c → ⊥
unfolding seat_of
not_there l c h i p e =
    let a : same_content (content_at l i) c ≡ false = find.least_clear (is_at l c) (length l) 0 (omega arith) i (omega arith) (omega arith) in
    let b : same_content (content_at l i) c ≡ true = ap (λ (x : Content). same_content x c) e ∙ joined.same_self c in
    let z : ◌≡◌ {A = ℕ} 0 1 = cc in
    omega arith

append_distinct : (l : List Content) (c : Content) → Distinct no_content l → ((i : ℕ) → i < length l → content_at l i ≡ c → ⊥) → Distinct no_content (l ++ (c ∷ []))
append_distinct l c h ne i j p q e = by (dec_lt i (length l)) (dec_lt j (length l))
  where
    long : length (l ++ (c ∷ [])) ≡ length l + 1
    long = length-append l (c ∷ [])

    inside : (x : ℕ) → x < length l → content_at (l ++ (c ∷ [])) x ≡ content_at l x
    inside x s = get_or-append l (c ∷ []) no_content x s

    final : (x : ℕ) → x ≡ length l → content_at (l ++ (c ∷ [])) x ≡ c
    final x s = get_or_at l c [] no_content x (sym s)

    by : Dec (i < length l) → Dec (j < length l) → i ≡ j
    by (yes s) (yes r) = h i j s r (sym (inside i s) ∙ e ∙ inside j r)
    by (yes s) (no r) = absurd (ne i s (sym (inside i s) ∙ e ∙ final j (omega (arith, long))))
    by (no s) (yes r) = absurd (ne j r (sym (inside j r) ∙ sym e ∙ final i (omega (arith, long))))
    by (no s) (no r) = omega (arith, long)

pub joins_distinct : (l : List Content) (c : Content) → Distinct no_content l → Distinct no_content (joins l c)
joins_distinct l c h = by (dec_lt (seat_of l (length l) c) (length l))
  where
    by : Dec (seat_of l (length l) c < length l) → Distinct no_content (joins l c)
    by (yes p) = subst (λ (k : List Content). Distinct no_content k) (sym (joined.joins_has l c p)) h
    by (no p) =
        subst (λ (k : List Content). Distinct no_content k) (sym (joined.joins_new l c (omega arith)))
        (append_distinct l c h (not_there l c (omega arith)))

pub gathered_distinct : (seen l : List Content) → Distinct no_content seen → Distinct no_content (gathered seen l)
unfolding gathered
gathered_distinct seen [] h = h
gathered_distinct seen (c ∷ l) h = gathered_distinct (joins seen c) l (joins_distinct seen c h)

pub contents_distinct : (b : Bench) (l : Line) → Distinct no_content (contents_of b l)
unfolding contents_of
contents_distinct b l =
    gathered_distinct (persisted_at b.machine l ∷ []) (map (λ m. cached_at m l) (drop (b.from l) b.past)) (λ i j p q e. omega arith)

-- ---- the choices

heads : (a b : Content) (y z : List Content) → a ∷ y ≡ b ∷ z → (a ≡ b) × (y ≡ z)
heads a b y z e = (cc, cc)

abbrev pub AllDistinct : List (List Content) → Type 0
AllDistinct lists = (l : ℕ) → l < length lists → Distinct no_content (get_or lists l [])

module _ (line : List Content) (rest : List (List Content)) where
  -- two choices that are equal have equal numbers in the first line and in the others
  choices_line : Distinct no_content line → Distinct [] (choices rest) → (i j : ℕ) → i < length line * product rest → j < length line * product rest
      → get_or (choices (line ∷ rest)) i [] ≡ get_or (choices (line ∷ rest)) j [] → i ≡ j
  choices_line h k i j p q e =
      let w = product rest in
      let pos = choices.factor_pos i (length line) w p in
      let both = heads (content_at line (i / w)) (content_at line (j / w)) (get_or (choices rest) (i % w) []) (get_or (choices rest) (j % w) [])
      (sym (choices.choices_at line rest i p) ∙ e ∙ choices.choices_at line rest j q) in
      let first : i / w ≡ j / w = h (i / w) (j / w) ((div-lt_iff_lt-mul pos).1 p) ((div-lt_iff_lt-mul pos).1 q) both.0 in
      let others : i % w ≡ j % w =
      k (i % w) (j % w) (omega (arith, mod-lt i pos, choices.choices_length rest)) (omega (arith, mod-lt j pos, choices.choices_length rest)) both.1 in
      sym (div-add-mod' i w) ∙ ap₂ (λ (x y : ℕ). x * w + y) first others ∙ div-add-mod' j w

product_cons : (line : List Content) (rest : List (List Content)) → product (line ∷ rest) ≡ length line * product rest
unfolding product
product_cons line rest = refl

product_nil : product [] ≡ 1
unfolding product
product_nil = refl

pub choices_distinct : (lists : List (List Content)) → AllDistinct lists → Distinct [] (choices lists)
choices_distinct [] h i j p q e = omega (arith, choices.choices_length [], product_nil)
choices_distinct (line ∷ rest) h i j p q e =
    choices_line line rest (h 0 (omega arith)) (choices_distinct rest (λ l r. h (suc l) (omega arith))) i j
    (omega (arith, choices.choices_length (line ∷ rest), product_cons line rest)) (omega (arith, choices.choices_length (line ∷ rest), product_cons line rest)) e

-- a choice has a content of each line
pub choice_length : (lists : List (List Content)) (k : ℕ) → k < product lists → length (get_or (choices lists) k []) ≡ length lists
choice_length [] k p = let z : k ≡ 0 = omega (arith, product_nil) in rw (z, choices.choices_nothing)
choice_length (line ∷ rest) k p =
    let q : k < length line * product rest = omega (arith, product_cons line rest) in
    ap length (choices.choices_at line rest k q)
    ∙ ap suc (choice_length rest (k % product rest) (mod-lt k (choices.factor_pos k (length line) (product rest) q)))

-- ---- the images

-- a content of a head line
abbrev pub OfHead : Content → Type 0
OfHead c = c ≡ head_content c.index

-- each content of the head lines of this shape is one
abbrev HeadsIn : Shape → List Content → Type 0
HeadsIn z c = (k : ℕ) → k < head_lines z → OfHead (content_at c k)

-- two choices that give one image are one
pub image_injective : (z : Shape) (c d : List Content) → length c ≡ line_count z → length d ≡ line_count z → HeadsIn z c → HeadsIn z d
    → image_of z c ≡ image_of z d → c ≡ d
unfolding image_of
image_injective z c d p q g h e = ext_get_or no_content c d (p ∙ sym q) (λ i r. at i (omega arith))
  where
    node : (i : ℕ) → i < z.n → content_at c (head_lines z + i) ≡ content_at d (head_lines z + i)
    node i r =
        sym (tabs.front_at (λ j. content_at c (head_lines z + j)) z.n no_contents i no_content r)
        ∙ ap (λ (x : Image). content_at x.nodes i) e
        ∙ tabs.front_at (λ j. content_at d (head_lines z + j)) z.n no_contents i no_content r

    head : (k : ℕ) → k < head_lines z → (content_at c k).index ≡ (content_at d k).index
    head k r =
        sym (heads_at_lem z (λ j. (content_at c j).index) k r) ∙ ap (λ (x : Image). head_in x k) e ∙ heads_at_lem z (λ j. (content_at d j).index) k r

    at : (i : ℕ) → i < line_count z → content_at c i ≡ content_at d i
    at i r = by (dec_lt i (head_lines z))
      where
        by : Dec (i < head_lines z) → content_at c i ≡ content_at d i
        by (yes p) = g i p ∙ ap head_content (head i p) ∙ sym (h i p)
        by (no p) = let s : i ≡ head_lines z + (i - head_lines z) = omega arith in rw s (node (i - head_lines z) (omega arith))

-- what an image beyond the last ending reads as
abbrev pub no_image : Image
no_image = record { form = 0; n = 0; t = 0; heads = no_heads; nodes = no_contents }

-- a choice takes a content of each line
pub choice_at : (P : ℕ → Content → Type 0) (lists : List (List Content)) → ((l j : ℕ) → l < length lists → j < length (get_or lists l []) → P l (content_at (get_or lists l []) j))
    → (k : ℕ) → k < product lists → (l : ℕ) → l < length lists → P l (content_at (get_or (choices lists) k []) l)
choice_at P [] h k p l q = absurd (omega arith)
choice_at P (line ∷ rest) h k p l q =
    let r : k < length line * product rest = omega (arith, product_cons line rest) in
    let pos = choices.factor_pos k (length line) (product rest) r in
    rw (choices.choices_at line rest k r)
    (by l q (h 0 (k / product rest) (omega arith) ((div-lt_iff_lt-mul pos).1 r))
    (choice_at (λ (x : ℕ) (c : Content). P (suc x) c) rest (λ x j u v. h (suc x) j (omega arith) v) (k % product rest) (mod-lt k pos)))
  where
    by : (l : ℕ) → l < suc (length rest) → P 0 (content_at line (k / product rest))
        → ((x : ℕ) → x < length rest → P (suc x) (content_at (get_or (choices rest) (k % product rest) []) x))
        → P l (content_at (content_at line (k / product rest) ∷ get_or (choices rest) (k % product rest) []) l)
    by zero q a b = a
    by (suc l) q a b = b l (omega arith)

module _ (z : Shape) (lists : List (List Content)) (size : length lists ≡ line_count z)
    (head : (l j : ℕ) → l < head_lines z → j < length (get_or lists l []) → OfHead (content_at (get_or lists l []) j)) where
  choice_heads : (k : ℕ) → k < product lists → HeadsIn z (get_or (choices lists) k [])
  choice_heads k p l q =
      choice_at (λ (x : ℕ) (c : Content). x < head_lines z → OfHead c) lists (λ x j u v w. head x j w v) k p l (omega arith) q

  pub endings_distinct : AllDistinct lists → Distinct no_image (endings z lists)
  unfolding endings
  endings_distinct h i j p q e =
      let all = choices lists in
      let len = choices.choices_length lists in
      let a : i < length all = omega (arith, length-map all (image_of z)) in
      let b : j < length all = omega (arith, length-map all (image_of z)) in
      choices_distinct lists h i j a b
      (image_injective z (get_or all i []) (get_or all j [])
      (choice_length lists i (omega arith) ∙ size)
      (choice_length lists j (omega arith) ∙ size)
      (choice_heads i (omega arith))
      (choice_heads j (omega arith))
      (sym (blocks.get_or_map_in (image_of z) all i [] no_image a) ∙ e ∙ blocks.get_or_map_in (image_of z) all j [] no_image b))

-- ---- a bench's endings

joins_head : (l : List Content) (c : Content) → ((j : ℕ) → j < length l → OfHead (content_at l j)) → OfHead c → (j : ℕ) → j < length (joins l c) → OfHead (content_at (joins l c) j)
joins_head l c h k j p = by (dec_lt (seat_of l (length l) c) (length l)) (dec_lt j (length l))
  where
    by : Dec (seat_of l (length l) c < length l) → Dec (j < length l) → OfHead (content_at (joins l c) j)
    by d (yes r) = rw (joined.joins_at l c j r) (h j r)
    by (yes s) (no r) = absurd (omega (arith, ap length (joined.joins_has l c s)))
    by (no s) (no r) =
        let e = joined.joins_new l c (omega arith) in
        rw (e, get_or_at l c [] no_content j (omega (arith, ap length e, length-append l (c ∷ [])))) k

gathered_head : (k : ℕ) (seen : List Content) (ms : List Machine) → ((j : ℕ) → j < length seen → OfHead (content_at seen j))
    → (j : ℕ) → j < length (gathered seen (map (λ m. cached_at m (of_head k)) ms)) → OfHead (content_at (gathered seen (map (λ m. cached_at m (of_head k)) ms)) j)
unfolding gathered
gathered_head k seen [] h = h
gathered_head k seen (m ∷ ms) h = gathered_head k (joins seen (cached_at m (of_head k))) ms (joins_head seen (cached_at m (of_head k)) h refl)

pub contents_head : (b : Bench) (k j : ℕ) → j < length (contents_of b (of_head k)) → OfHead (content_at (contents_of b (of_head k)) j)
unfolding contents_of
contents_head b k = gathered_head k (persisted_at b.machine (of_head k) ∷ []) (drop (b.from (of_head k)) b.past) only
  where
    only : (j : ℕ) → j < 1 → OfHead (content_at (persisted_at b.machine (of_head k) ∷ []) j)
    only zero p = refl
    only (suc j) p = absurd (omega arith)

-- no two endings of a bench are one image
pub bench_distinct : (b : Bench) → Distinct no_image (endings (shape_of b.machine) (table_of b))
bench_distinct b = endings_distinct (shape_of b.machine) (table_of b) (moments.table_length b) heads_of lines
  where
    heads_of : (l j : ℕ) → l < head_lines (shape_of b.machine) → j < length (get_or (table_of b) l []) → OfHead (content_at (get_or (table_of b) l []) j)
    heads_of l j p =
        subst (λ (k : List Content). j < length k → OfHead (content_at k j)) (sym (moments.table_at b l (omega arith) ∙ ap (contents_of b) (line_head (shape_of b.machine) l p)))
        (contents_head b l j)

    lines : AllDistinct (table_of b)
    lines l p =
        subst (λ (k : List Content). Distinct no_content k) (sym (moments.table_at b l (omega (arith, moments.table_length b))))
        (contents_distinct b (line_at (shape_of b.machine) l))

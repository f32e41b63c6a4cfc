-- Rows as a table and its counts.
use Prim.Native.Nat.{ℕ, zero, suc, ◌+◌, ◌-◌, ◌<◌, ◌≤◌}
use mathlib.Core.Path.{◌≡◌, refl, sym, ap, ap₂, ◌∙◌}
use mathlib.Core.Bool.{Bool, true, false}
use mathlib.Core.List.{List, [], ◌∷◌, map, append-nil}
use native.Mathlib.Omega.{arith}
use lib.ListN.{length, get_or, set, drop, get_or-map}
use lib.Seq.{take_all}
use Rattle.std.proofs.lemmas.List.{ext_get_or, get_or-append_right, get_or-drop, get_or-replicate}
use native.Mathlib.Decide.{dec_lt}
use lib.ListN.{replicate, length-map}
use Rattle.image.specs.Layout.{no_content}
use Rattle.endtable.specs.Opened.{blank_table, blank_counts, line_opened, line_counted, opened_table, opened_counts}
use lib.Dec.{ltb}
use borrow.Author.Tests.{eq-eqb, ne_eqb, lt-ltb, le-ltb}
use Rattle.std.specs.Prelude.{None, Some}
use Rattle.lists.specs.Find.{pick}
use Rattle.lists.specs.Tab.{tab, front}
use Rattle.lists.proofs.TabLaws as tabs
use Rattle.image.specs.declared.Content.{Content}
use Rattle.image.specs.declared.Shape.{Shape}
use Rattle.machine.specs.Line.{shape_of, line_count, line_at, cached_at, number_of}
use Rattle.machine.specs.declared.Line.{Line}
use Rattle.machine.specs.declared.Touch.{Touch}
use Rattle.machine.specs.declared.Touch.TheVariants.{Nothing as nothing, Store as a_store, Persist as a_persist, Flush as a_flush, Fence as a_fence}
use Rattle.machine.specs.declared.Machine.{Machine}
use Rattle.machine.specs.declared.Event.{Event}
use Rattle.endtable.specs.Rows.{row_after, count_after, no_row, joined_row, row_of}
use Rattle.endtable.specs.Since.{since_joined, since_after}
use Rattle.endtable.specs.Tables.{table_after, counts_after}
use Rattle.machine.specs.declared.Acted.{Acted}
use Rattle.endtable.specs.Touched.{Touched, touched_row}
use Rattle.runs.specs.Rows.{ats_of, counts_of, no_rows, row_at, rows_of, line_row, opened_rows, over_in, rows_touched, line_in, OfThreads, rows_left, since_left, rows_after, since_now}
use Rattle.endtable.specs.declared.row.Row.{Row}
use Rattle.endtable.proofs.Openings as openings

-- what the first n of a list are filled with leaves the others
front_rest : {A : Type 0} (f : ℕ → A) (n i : ℕ) (l : List A) (d : A) → n ≤ i → get_or (front f n l) i d ≡ get_or l i d
unfolding front
front_rest f n i l d h =
    let e : n + (i - n) ≡ i = omega arith in
    get_or-append_right (tab f n) (drop n l) n i d (tabs.length_tab f n) h ∙ get_or-drop n l (i - n) d ∙ ap (λ j. get_or l j d) e

map_set : {A B : Type 0} (f : A → B) (l : List A) (i : ℕ) (v : A) → map f (set l i v) ≡ set (map f l) i (f v)
map_set f [] i v = refl
map_set f (x ∷ l) zero v = refl
map_set f (x ∷ l) (suc i) v = ap (λ r. f x ∷ r) (map_set f l i v)

pub length_no : length no_rows ≡ 72
unfolding no_rows
length_no = refl

rows_all : (t : List (List Content)) (cs : List ℕ) → rows_of t cs 72 ≡ tab (row_at t cs) 72
unfolding rows_of front no_rows
rows_all t cs = append-nil (tab (row_at t cs) 72)

list_tab : {A : Type 0} (l : List A) (d : A) (n : ℕ) → length l ≡ n → tab (λ i. get_or l i d) n ≡ l
list_tab l d n e =
    tabs.tab_same (λ i. get_or l i d) (λ i. get_or l (0 + i) d) n (λ i h. ap (λ j. get_or l j d) (let z : i ≡ 0 + i = omega arith in z))
    ∙ sym (tabs.take_drop_tab l d 0 n (omega arith))
    ∙ take_all n l (omega arith)

pub rows_ats : (t : List (List Content)) (cs : List ℕ) → length t ≡ 72 → ats_of (rows_of t cs 72) ≡ t
rows_ats t cs h = ap ats_of (rows_all t cs) ∙ tabs.map_tab (λ r. r.at) (row_at t cs) 72 ∙ list_tab t [] 72 h

pub rows_counts : (t : List (List Content)) (cs : List ℕ) → length cs ≡ 72 → counts_of (rows_of t cs 72) ≡ cs
rows_counts t cs h = ap counts_of (rows_all t cs) ∙ tabs.map_tab (λ r. r.count) (row_at t cs) 72 ∙ list_tab cs 0 72 h

pub at_of : (rows : List Row) (l : ℕ) → get_or (ats_of rows) l [] ≡ (get_or rows l no_row).at
at_of rows l = get_or-map (λ (r : Row). r.at) rows l no_row

pub count_of_lem : (rows : List Row) (l : ℕ) → get_or (counts_of rows) l 0 ≡ (get_or rows l no_row).count
count_of_lem rows l = get_or-map (λ (r : Row). r.count) rows l no_row

-- the rows of the opened table are those of the lines, blank beyond
module _ (m : Machine) (h : line_count (shape_of m) ≤ 72) where
  abbrev n : ℕ
  n = line_count (shape_of m)

  opened_at : (l : ℕ) → l < 72 → Dec (l < n) → get_or (front (line_row m) n no_rows) l no_row ≡ row_at (opened_table m n) (opened_counts m n) l
  unfolding opened_table opened_counts no_rows blank_table blank_counts
  opened_at l p (yes q) =
      rw (tabs.front_at (line_row m) n no_rows l no_row q, tabs.front_at (line_opened m) n blank_table l [] q, tabs.front_at (line_counted m) n blank_counts l 0 q)
  opened_at l p (no q) =
      rw (front_rest (line_row m) n l no_rows no_row (omega arith), front_rest (line_opened m) n l blank_table [] (omega arith), front_rest (line_counted m) n l blank_counts 0 (omega arith))
      (rw (get_or-replicate 72 l (record { count = 0; at = replicate 16 no_content }) no_row p, get_or-replicate 72 l (replicate 16 no_content) [] p, get_or-replicate {A = ℕ} 72 l 0 0 p))

  pub rows_opened : front (line_row m) n no_rows ≡ opened_rows m
  unfolding opened_rows rows_of
  rows_opened =
      let a : length (front (line_row m) n no_rows) ≡ 72 = tabs.front_size (line_row m) n no_rows (omega (arith, length_no)) ∙ length_no in
      let t = opened_table m n in
      let cs = opened_counts m n in
      ext_get_or no_row (front (line_row m) n no_rows) (rows_of t cs 72) (a ∙ sym (tabs.front_size (row_at t cs) 72 no_rows (omega (arith, length_no)) ∙ length_no))
      (λ l p. opened_at l (omega arith) (dec_lt l n) ∙ sym (tabs.front_at (row_at t cs) 72 no_rows l no_row (omega arith)))

-- a table, and counts, that are those of each row
pub mapped_at : (rows : List Row) (t : List (List Content)) → length rows ≡ 72 → length t ≡ 72 → ((i : ℕ) → i < 72 → get_or t i [] ≡ (get_or rows i no_row).at) → t ≡ ats_of rows
mapped_at rows t long e h =
    ext_get_or [] t (ats_of rows) (omega (arith, length-map rows (λ (r : Row). r.at))) (λ i p. h i (omega arith) ∙ sym (at_of rows i))

pub mapped_count : (rows : List Row) (cs : List ℕ) → length rows ≡ 72 → length cs ≡ 72 → ((i : ℕ) → i < 72 → get_or cs i 0 ≡ (get_or rows i no_row).count) → cs ≡ counts_of rows
mapped_count rows cs long e h =
    ext_get_or 0 cs (counts_of rows) (omega (arith, length-map rows (λ (r : Row). r.count))) (λ i p. h i (omega arith) ∙ sym (count_of_lem rows i))

-- the loops that fill them, up to the last line
abbrev pub ats_at : List Row → ℕ → List Content
ats_at rows l = (get_or rows l no_row).at

abbrev pub count_at : List Row → ℕ → ℕ
count_at rows l = (get_or rows l no_row).count

pub ats_all : (rows : List Row) → length rows ≡ 72 → front (ats_at rows) 72 blank_table ≡ ats_of rows
ats_all rows h =
    mapped_at rows (front (ats_at rows) 72 blank_table) h (tabs.front_size (ats_at rows) 72 blank_table (omega (arith, openings.length_blank_table)) ∙ openings.length_blank_table)
    (λ i p. tabs.front_at (ats_at rows) 72 blank_table i [] p)

pub counts_all : (rows : List Row) → length rows ≡ 72 → front (count_at rows) 72 blank_counts ≡ counts_of rows
counts_all rows h =
    mapped_count rows (front (count_at rows) 72 blank_counts) h (tabs.front_size (count_at rows) 72 blank_counts (omega (arith, openings.length_blank_counts)) ∙ openings.length_blank_counts)
    (λ i p. tabs.front_at (count_at rows) 72 blank_counts i 0 p)

-- ---- after an event

pub touched_ats : (rows since : List Row) (late : Bool) (w : Touched) (c : Content)
    → ats_of (rows_touched rows since late w c) ≡ table_after (ats_of rows) (counts_of rows) since late w c
unfolding table_after joined_row
touched_ats rows since late w c = by (ltb w.line 72) (ltb w.thread 8) w.persisted late
  where
    by : (x y p o : Bool)
        → ats_of (pick x (pick y (pick p rows (pick o rows (set rows w.line (get_or since w.thread no_row)))) (set rows w.line (joined_row (get_or rows w.line no_row) c w.persisted))) rows)
        ≡ pick x (pick y (pick p (ats_of rows) (pick o (ats_of rows) (set (ats_of rows) w.line (get_or since w.thread no_row).at)))
        (set (ats_of rows) w.line (row_after (get_or (ats_of rows) w.line []) (get_or (counts_of rows) w.line 0) c w.persisted))) (ats_of rows)
    by false y p o = refl
    by true false p o =
        map_set (λ (r : Row). r.at) rows w.line (joined_row (get_or rows w.line no_row) c w.persisted)
        ∙ ap₂ (λ (a : List Content) (n : ℕ). set (ats_of rows) w.line (row_after a n c w.persisted)) (sym (at_of rows w.line)) (sym (count_of_lem rows w.line))
    by true true true o = refl
    by true true false true = refl
    by true true false false = map_set (λ (r : Row). r.at) rows w.line (get_or since w.thread no_row)

pub touched_counts : (rows since : List Row) (late : Bool) (w : Touched) (c : Content)
    → counts_of (rows_touched rows since late w c) ≡ counts_after (ats_of rows) (counts_of rows) since late w c
unfolding counts_after joined_row
touched_counts rows since late w c = by (ltb w.line 72) (ltb w.thread 8) w.persisted late
  where
    by : (x y p o : Bool)
        → counts_of (pick x (pick y (pick p rows (pick o rows (set rows w.line (get_or since w.thread no_row)))) (set rows w.line (joined_row (get_or rows w.line no_row) c w.persisted))) rows)
        ≡ pick x (pick y (pick p (counts_of rows) (pick o (counts_of rows) (set (counts_of rows) w.line (get_or since w.thread no_row).count)))
        (set (counts_of rows) w.line (count_after (get_or (ats_of rows) w.line []) (get_or (counts_of rows) w.line 0) c w.persisted))) (counts_of rows)
    by false y p o = refl
    by true false p o =
        map_set (λ (r : Row). r.count) rows w.line (joined_row (get_or rows w.line no_row) c w.persisted)
        ∙ ap₂ (λ (a : List Content) (n : ℕ). set (counts_of rows) w.line (count_after a n c w.persisted)) (sym (at_of rows w.line)) (sym (count_of_lem rows w.line))
    by true true true o = refl
    by true true false true = refl
    by true true false false = map_set (λ (r : Row). r.count) rows w.line (get_or since w.thread no_row)

-- both kinds of rows behind an event
abbrev pub Behind : List Row → List Row → Machine → Event → Acted → List Row → List Row → Type 0
Behind rows since m e o x y = (x ≡ rows_after rows since m e o) × (y ≡ since_now since e o)

module _ (rows since : List Row) (m : Machine) (e : Event) (o : Acted) where
  pub after_crash : e.kind ≡ 5 → Behind rows since m e o (opened_rows o.machine) since
  unfolding rows_after since_now
  after_crash h = (rw (eq-eqb e.kind 5 h), rw (eq-eqb e.kind 5 h))

  pub after_touch : (e.kind ≡ 5 → ⊥) → (x y : List Row) → x ≡ rows_left rows since m.over_heads m.over o.machine o.touch → y ≡ since_left since o.machine o.touch → Behind rows since m e o x y
  unfolding rows_after since_now rows_left since_left
  after_touch other x y p q = (p ∙ sym (rw (ne_eqb e.kind 5 other)), q ∙ sym (rw (ne_eqb e.kind 5 other)))

-- ---- behind a touch, at the code's terms

some_same : {x y : Line} → Some x ≡ Some y → x ≡ y
some_same e = cc

-- the touched line's number
line_number : (z : Shape) (t : Touch) (l : Line) → line_in t ≡ Some l → (touched_row z t).line ≡ number_of z l
line_number z nothing l e = absurd (cc)
line_number z (a_store x) l e = ap (number_of z) (some_same e)
line_number z (a_persist x) l e = ap (number_of z) (some_same e)
line_number z (a_flush k x) l e = ap (number_of z) (some_same e)
line_number z (a_fence k x) l e = ap (number_of z) (some_same e)

module _ (rows since : List Row) (heads nodes : List ℕ) (m : Machine) where
  abbrev z : Shape
  z = shape_of m

  abbrev Left : Touch → List Row → List Row → Type 0
  Left t x y = (x ≡ rows_left rows since heads nodes m t) × (y ≡ since_left since m t)

  pub left_nowhere : (t : Touch) → line_in t ≡ None → Left t rows since
  unfolding rows_left since_left since_after
  left_nowhere nothing e = (refl, refl)
  left_nowhere (a_store x) e = absurd (cc)
  left_nowhere (a_persist x) e = absurd (cc)
  left_nowhere (a_flush k x) e = absurd (cc)
  left_nowhere (a_fence k x) e = absurd (cc)

  pub left_far : (t : Touch) (l : Line) (x : ℕ) → line_in t ≡ Some l → x ≡ number_of z l → 72 ≤ x → Left t rows since
  unfolding rows_left since_left since_after
  left_far t l x e q h =
      let f : 72 ≤ (touched_row z t).line = omega (arith, q, line_number z t l e) in
      (sym (rw (le-ltb _ 72 f)), sym (rw (le-ltb _ 72 f)))

  -- line x, which the content c was left in
  module _ (t : Touch) (l : Line) (x : ℕ) (e : line_in t ≡ Some l) (q : x ≡ number_of z l) (h : x < 72) (c : Content) (cached : c ≡ cached_at m (line_at z x)) where
    here : x ≡ (touched_row z t).line
    here = q ∙ sym (line_number z t l e)

    pub left_store : (k : Line) → t ≡ a_store k → (r : Row) → r ≡ joined_row (get_or rows x no_row) c false → (y : List Row) → y ≡ since_joined z m.threads since x c 8 → Left t (set rows x r) y
    unfolding rows_left since_left since_after
    left_store k is r j y d =
        let p : x ≡ number_of z k = here ∙ ap (λ (w : Touch). (touched_row z w).line) is in
        rw is (rw (← p, lt-ltb x 72 h, ← cached) (ap (set rows x) j, d))

    pub left_persist : (k : Line) → t ≡ a_persist k → (r : Row) → r ≡ joined_row (get_or rows x no_row) c true → Left t (set rows x r) since
    unfolding rows_left since_left since_after
    left_persist k is r j =
        let p : x ≡ number_of z k = here ∙ ap (λ (w : Touch). (touched_row z w).line) is in
        rw is (rw (← p, lt-ltb x 72 h, ← cached) (ap (set rows x) j, refl))

    pub left_flush : (u : ℕ) (k : Line) → t ≡ a_flush u k → OfThreads t → (r : Row) → r ≡ row_of c → Left t rows (set since u r)
    unfolding rows_left since_left since_after
    left_flush u k is o r j =
        let p : x ≡ number_of z k = here ∙ ap (λ (w : Touch). (touched_row z w).line) is in
        rw is (rw (← p, lt-ltb x 72 h, lt-ltb u 8 (rw is at o), ← cached) (refl, ap (set since u) j))

    pub left_later : (u : ℕ) (k : Line) → t ≡ a_fence u k → OfThreads t → over_in heads nodes z x u ≡ true → Left t rows since
    unfolding rows_left since_left since_after
    left_later u k is o b =
        let p : x ≡ number_of z k = here ∙ ap (λ (w : Touch). (touched_row z w).line) is in
        rw is (rw (← p, lt-ltb x 72 h, lt-ltb u 8 (rw is at o), b) (refl, refl))

    pub left_fence : (u : ℕ) (k : Line) → t ≡ a_fence u k → OfThreads t → over_in heads nodes z x u ≡ false → Left t (set rows x (get_or since u no_row)) since
    unfolding rows_left since_left since_after
    left_fence u k is o b =
        let p : x ≡ number_of z k = here ∙ ap (λ (w : Touch). (touched_row z w).line) is in
        rw is (rw (← p, lt-ltb x 72 h, lt-ltb u 8 (rw is at o), b) (refl, refl))

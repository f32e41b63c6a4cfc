-- The call on one line: how its bytes are written one after the other, and what its definitions come to.
use Prim.Native.Nat.{ℕ, ◌+◌, ◌*◌, ◌/◌, ◌<◌, ◌≤◌}
use mathlib.Core.Path.{◌≡◌, refl, sym, ap, ◌∙◌}
use mathlib.Core.Bool.{Bool, true, false}
use mathlib.Core.List.{List, [], ◌++◌}
use native.Mathlib.Omega.{arith}
use native.Mathlib.Numerals.{add-one}
use lib.ListN.{length, get_or}
use lib.Dec.{ltb, leb}
use borrow.Author.Tests.{lt-ltb, le-ltb, ltb-false, leb-false}
use Rattle.lists.specs.Tab.{joined, over}
use Rattle.lists.proofs.TabLaws as tabs
use Rattle.lists.proofs.BoolLaws.{false_true}
use Rattle.lists.proofs.FindLaws.{least_clear}
use Rattle.answer.specs.Answers.{told, accepted, Taken, Room, Number, Contents}
use Rattle.image.specs.Bytes.{le}
use Rattle.image.specs.Form.{known, width_of, node_size, head_lines}
use Rattle.image.specs.Layout.{content_at, node_bytes, body_bytes}
use Rattle.image.specs.declared.Content.{Content}
use Rattle.schedule.specs.Layout.{schedule_shape, schedule_answer}
use Rattle.schedule.specs.Run.{ran}
use Rattle.page.specs.Refusals.{first_crowded, table_in, table_answer, page_answer}
use Rattle.pages.specs.Lines.{line_answer, line_in, blank_row, first_of, sixteen}
use Rattle.codec.proofs.Accepted as codec
use Rattle.codec.proofs.Laws.{length_body, body_next}
use Rattle.runs.proofs.PageLaws as pages
use Rattle.calls.specs.Line.{index_bytes, parts_of, room_of, line_bytes, line_answered, line_given, line_written}
use Rattle.calls.proofs.Apart as apart
use Rattle.calls.proofs.Laws as laws

-- ---- one content more

pub length_indices : (c : List Content) (n : ℕ) → length (index_bytes c n) ≡ n * 8
unfolding index_bytes
length_indices c n = tabs.length_joined (λ j. le 8 (content_at c j).index) 8 n (λ j. refl)

indices_more : (c : List Content) (i : ℕ) → index_bytes c i ++ le 8 (content_at c i).index ≡ index_bytes c (i + 1)
unfolding index_bytes joined
indices_more c i = ap (joined (λ j. le 8 (content_at c j).index)) (sym (add-one i))

-- version 2's, which the calls below write
pub wide_known : known 2 ≡ true
unfolding known
wide_known = refl

pub wide_width : width_of 2 ≡ 8
unfolding width_of
wide_width = refl

pub wide_size : node_size 2 ≡ 13
unfolding node_size width_of
wide_size = refl

pub indices_next : (b : List ℕ) (c : List Content) (i : ℕ) → over (over b 0 (index_bytes c i)) (i * 8) (le (width_of 2) (content_at c i).index) ≡ over b 0 (index_bytes c (i + 1))
indices_next b c i =
    ap (λ (w : ℕ). over (over b 0 (index_bytes c i)) (i * 8) (le w (content_at c i).index)) wide_width
    ∙ ap (λ (k : ℕ). over (over b 0 (index_bytes c i)) k (le 8 (content_at c i).index)) (omega (arith, length_indices c i))
    ∙ tabs.over_append b 0 (index_bytes c i) (le 8 (content_at c i).index)
    ∙ ap (over b 0) (indices_more c i)

length_contents : (c : List Content) (n : ℕ) → length (body_bytes 2 c n) ≡ n * 13
length_contents c n = length_body 2 c n wide_known ∙ ap (λ (k : ℕ). n * k) wide_size

pub contents_next : (b : List ℕ) (c : List Content) (i : ℕ) → over (over b 0 (body_bytes 2 c i)) (i * 13) (node_bytes 2 (content_at c i)) ≡ over b 0 (body_bytes 2 c (i + 1))
contents_next b c i =
    ap (λ (k : ℕ). over (over b 0 (body_bytes 2 c i)) k (node_bytes 2 (content_at c i))) (omega (arith, length_contents c i))
    ∙ tabs.over_append b 0 (body_bytes 2 c i) (node_bytes 2 (content_at c i))
    ∙ ap (over b 0) (sym (body_next 2 c i))

-- ---- a line's contents out of their sixteen places

length_parts : (h : Bool) (c : List Content) (n : ℕ) → length (parts_of h c n) ≡ room_of h n
length_parts true c n = length_indices c n
length_parts false c n = length_contents c n

content_same : (c : List Content) (j : ℕ) → j < length c → content_at (sixteen c) j ≡ content_at c j
unfolding first_of
content_same c j h = tabs.front_at (content_at c) (length c) blank_row j _ h

parts_same : (h : Bool) (c : List Content) → parts_of h (sixteen c) (length c) ≡ parts_of h c (length c)
unfolding index_bytes body_bytes
parts_same true c = tabs.joined_same _ _ (length c) (λ j p. ap (λ (v : Content). le 8 v.index) (content_same c j p))
parts_same false c = tabs.joined_same _ _ (length c) (λ j p. ap (node_bytes 2) (content_same c j p))

-- no line of a page has more than sixteen
row_few : (t : List (List Content)) → accepted (table_answer t) ≡ true → (l : ℕ) → l < length t → length (get_or t l []) ≤ 16
unfolding table_answer first_crowded
row_few t h l p =
    let a = codec.check_true (ltb (first_crowded t) (length t)) (Contents (first_crowded t)) _ refl h in
    let q = ltb-false (first_crowded t) (length t) a.0 in
    ltb-false 16 (length (get_or t l [])) (least_clear (λ i. ltb 16 (length (get_or t i []))) (length t) 0 (omega arith) l (omega arith) (omega arith))

table_taken : (s : List ℕ) → accepted (page_answer s) ≡ true → accepted (table_answer (table_in s)) ≡ true
table_taken s h = by (accepted (schedule_answer s)) refl
  where
    run : accepted (schedule_answer s) ≡ true → (y : Bool) → accepted (ran s).answer ≡ y → accepted (table_answer (table_in s)) ≡ true
    run e true f = ap accepted (pages.page_table s e f) ∙ h
    run e false f = false_true (sym f ∙ ap accepted (pages.page_events s e f) ∙ h)

    by : (x : Bool) → accepted (schedule_answer s) ≡ x → accepted (table_answer (table_in s)) ≡ true
    by true e = run e (accepted (ran s).answer) refl
    by false e = false_true (sym e ∙ ap accepted (pages.page_bytes s e) ∙ h)

module _ (s : List ℕ) (l : ℕ) where
  -- line l is a head line
  abbrev pub head : Bool
  head = ltb l (head_lines (schedule_shape s))

  pub bytes_are : (c : List Content) (n : ℕ) → c ≡ sixteen (line_in s l) → n ≡ length (line_in s l) → parts_of head c n ≡ line_bytes s l
  unfolding line_bytes
  bytes_are c n e f = rw (e, f) (parts_same head (line_in s l))

  room_is : length (line_bytes s l) ≡ room_of head (length (line_in s l))
  unfolding line_bytes
  room_is = length_parts head (line_in s l) (length (line_in s l))

  -- ---- the answers, in their order

  pub line_refused : (room : ℕ) → accepted (line_answer s l) ≡ false → line_answer s l ≡ line_answered s l room
  unfolding line_answered
  line_refused room h = sym (laws.and_refused (line_answer s l) _ h)

  module _ (h : accepted (line_answer s l) ≡ true) where
    page_taken : accepted (page_answer s) ≡ true
    unfolding line_answer
    page_taken = by (accepted (page_answer s)) refl
      where
        by : (x : Bool) → accepted (page_answer s) ≡ x → accepted (page_answer s) ≡ true
        by true e = e
        by false e = ap accepted (sym (laws.and_refused (page_answer s) _ e)) ∙ h

    -- the schedule is taken, so its image stands behind its first 8 bytes
    pub line_schedule : accepted (schedule_answer s) ≡ true
    line_schedule = by (accepted (schedule_answer s)) refl
      where
        by : (x : Bool) → accepted (schedule_answer s) ≡ x → accepted (schedule_answer s) ≡ true
        by true e = e
        by false e = false_true (sym e ∙ ap accepted (pages.page_bytes s e) ∙ page_taken)

    there : l < length (table_in s)
    unfolding line_answer
    there = leb-false (length (table_in s)) l (codec.check_true (leb (length (table_in s)) l) (Number 0) Taken refl (ap accepted (sym (laws.and_taken (page_answer s) _ page_taken)) ∙ h)).0

    -- there are places for all of them
    pub line_few : length (line_in s l) ≤ 16
    unfolding line_in
    line_few = rw h (row_few (table_in s) (table_taken s page_taken) l there)

    pub line_short : (room : ℕ) → room < room_of head (length (line_in s l)) → Room ≡ line_answered s l room
    unfolding line_answered
    line_short room p = sym (laws.and_taken (line_answer s l) _ h ∙ rw (lt-ltb room (length (line_bytes s l)) (omega (arith, room_is))))

    pub line_goes : (room : ℕ) → room_of head (length (line_in s l)) ≤ room → Taken ≡ line_answered s l room
    unfolding line_answered
    line_goes room p = sym (laws.and_taken (line_answer s l) _ h ∙ rw (le-ltb room (length (line_bytes s l)) (omega (arith, room_is))))

  -- ---- the bytes

  pub line_stays : (b : List ℕ) → accepted (line_answered s l (length b)) ≡ false → line_written s l b ≡ b
  unfolding line_written
  line_stays b h = rw h

  pub line_writes : (b : List ℕ) → accepted (line_answered s l (length b)) ≡ true → over b 0 (line_bytes s l) ≡ line_written s l b
  unfolding line_written
  line_writes b h = rw h

  -- the value is whole
  pub given_count : (room : ℕ) → accepted (line_answered s l room) ≡ true → line_given s l room / 256 ≡ length (line_in s l)
  given_count room h = apart.value_back (told (line_answered s l room)) (length (line_in s l)) h

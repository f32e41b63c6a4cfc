-- All lines of a page are the page, and so are the pieces that lent buffers take one after the other. A refused page is its refusal's line.
use Prim.Native.Nat.{ℕ, zero, suc, ◌+◌, ◌-◌, ◌≤◌, ◌<◌}
use mathlib.Core.Path.{◌≡◌, sym, ap, ◌∙◌}
use mathlib.Core.Bool.{true, false}
use mathlib.Core.List.{List, [], ◌++◌}
use native.Mathlib.Omega.{arith}
use native.Mathlib.Decide.{dec_lt}
use lib.ListN.{length, get_or}
use Rattle.answer.specs.Answers.{told, accepted}
use Rattle.image.specs.declared.Image.{Image}
use Rattle.image.specs.declared.Shape.{Shape}
use Rattle.schedule.specs.Layout.{threads_in, nodes_in, count_in, schedule_shape}
use Rattle.page.specs.Endings.{endings, ending, image_of}
use Rattle.page.specs.Printed.{first_line, ending_line, lines_from, refused_line, printed}
use Rattle.page.specs.Refusals.{table_in, page_answer, ending_count, ending_in}
use Rattle.page.specs.Filled.{lines_on, page_line, lines_left, lines_taken, lines_bytes}
use Rattle.lawful.specs.Demand3.{Bytes}
use Rattle.printing.specs.Bounds.{line_room}
use Rattle.printing.specs.Lines.{refused_text}
use Rattle.printing.proofs.Fittings as fits
use Rattle.printing.proofs.PageLaws as pages
use Rattle.pageproof.proofs.Holds as holds
use Rattle.filling.specs.Pieces.{pieces_from, pieces}
use Rattle.filling.proofs.Numbers as numbers
use Rattle.filling.proofs.Answers as answers
use Rattle.filling.proofs.Wide as wide

module _ (s : List ℕ) (a : accepted (page_answer s) ≡ true) where
  abbrev all : List Image
  all = endings (schedule_shape s) (table_in s)

  abbrev line_of : ℕ → List ℕ
  line_of k = ending_line k (ending_in s k)

  line_is : (j k : ℕ) → ending_line j (ending_in s k) ≡ ending_line j (get_or all k (image_of (schedule_shape s) []))
  unfolding ending_in
  line_is j k =
      ap (ending_line j) (ap (λ (z : Shape). ending z (table_in s) k) (numbers.ran_shape s (holds.page_ran s a)) ∙ sym (pages.ending_at (schedule_shape s) (table_in s) k))

  behind : (i : ℕ) → page_line s (1 + i) ≡ line_of (0 + i)
  unfolding page_line
  behind i =
      let e : 1 + i ≡ suc i = omega arith in
      let z : i ≡ 0 + i = omega arith in
      ap (page_line s) e ∙ ap line_of z

  endings_are : lines_on (page_line s) 1 (ending_count s) ≡ lines_from 0 all
  unfolding ending_count
  endings_are =
      fits.on_same (page_line s) line_of (ending_count s) 1 0 (λ i q. behind i)
      ∙ ap (lines_on line_of 0) (sym (pages.endings_length (schedule_shape s) (table_in s)))
      ∙ pages.lines_are line_of (image_of (schedule_shape s) []) all 0
      (λ i q. let z : 0 + i ≡ i = omega arith in ap (λ k. ending_line (0 + i) (ending_in s k)) z ∙ line_is (0 + i) i)

  -- all lines
  pub page_lines : lines_on (page_line s) 0 (suc (ending_count s)) ≡ printed s
  unfolding page_line
  page_lines =
      fits.on_cons (page_line s) 0 (ending_count s)
      ∙ ap (λ r. first_line (threads_in s) (nodes_in s) (count_in s) (ending_count s) ++ r) endings_are
      ∙ sym (pages.printed_taken s a)

  -- ---- piece by piece, into buffers that have room for every line

  module _ (room : ℕ) (wide : (k : ℕ) → k ≤ ending_count s → length (page_line s k) ≤ room) where
    abbrev taken : ℕ → ℕ
    taken k = lines_taken s k room

    abbrev last : ℕ
    last = suc (ending_count s)

    -- a buffer where no line is left
    nothing : (k : ℕ) → ending_count s < k → (taken k ≡ 0) × (lines_bytes s k room ≡ [])
    nothing k h =
        let r = ap accepted (sym (answers.lines_none s a k room h)) in
        (answers.taken_none s k room r, answers.bytes_none s k room r)

    -- a buffer takes a line at least, and no more than there are
    something : (k : ℕ) → k ≤ ending_count s → (0 < taken k) × (k + taken k ≤ last)
    unfolding lines_left
    something k h =
        let e = answers.taken_some s k room (ap accepted (sym (answers.lines_taken_lem s a k room h (wide k h)))) in (
          omega (arith, e, fits.fit_some (page_line s) (last - k) k room (omega arith) (wide k h)),
          omega (arith, e, fits.fit_few (page_line s) (last - k) k room),
        )

    piece_none : (k c : ℕ) → ending_count s < k → pieces_from s room (k + taken k) c ≡ lines_on (page_line s) (k + taken k) (last - (k + taken k))
        → lines_bytes s k room ++ pieces_from s room (k + taken k) c ≡ lines_on (page_line s) k (last - k)
    piece_none k c h i =
        let n = nothing k h in
        let e : k + taken k ≡ k = omega (arith, n.0) in
        ap (λ r. r ++ pieces_from s room (k + taken k) c) n.1 ∙ i ∙ ap (λ m. lines_on (page_line s) m (last - m)) e

    piece_some : (k c : ℕ) → k ≤ ending_count s → pieces_from s room (k + taken k) c ≡ lines_on (page_line s) (k + taken k) (last - (k + taken k))
        → lines_bytes s k room ++ pieces_from s room (k + taken k) c ≡ lines_on (page_line s) k (last - k)
    unfolding lines_bytes
    piece_some k c h i =
        let e : taken k + (last - (k + taken k)) ≡ last - k = omega (arith, (something k h).1) in
        ap (λ r. lines_on (page_line s) k (taken k) ++ r) i
        ∙ sym (fits.on_join (page_line s) k (taken k) (last - (k + taken k)))
        ∙ ap (lines_on (page_line s) k) e

    piece : (k c : ℕ) → last ≤ k + suc c → Dec (ending_count s < k)
        → (last ≤ k + taken k + c → pieces_from s room (k + taken k) c ≡ lines_on (page_line s) (k + taken k) (last - (k + taken k)))
        → lines_bytes s k room ++ pieces_from s room (k + taken k) c ≡ lines_on (page_line s) k (last - k)
    piece k c h (yes l) i = piece_none k c l (i (omega arith))
    piece k c h (no l) i = piece_some k c (omega arith) (i (omega (arith, (something k (omega arith)).0)))

    pieces_are : (c k : ℕ) → last ≤ k + c → pieces_from s room k c ≡ lines_on (page_line s) k (last - k)
    unfolding pieces_from
    pieces_are zero k h =
        let e : 0 ≡ last - k = omega arith in
        sym (fits.on_none (page_line s) k) ∙ ap (lines_on (page_line s) k) e
    pieces_are (suc c) k h = piece k c h (dec_lt (ending_count s) k) (λ g. pieces_are c (k + taken k) g)

    -- joined, they are the page
    pub pieces_joined : pieces s room ≡ printed s
    unfolding pieces lines_left
    pieces_joined =
        let e : last - 0 ≡ last = omega arith in
        pieces_are (last - 0) 0 (omega arith) ∙ ap (lines_on (page_line s) 0) e ∙ page_lines

-- with room for the longest line, for every page of bytes
pub pieces_printed : (s : List ℕ) → Bytes s → accepted (page_answer s) ≡ true → (room : ℕ) → line_room 64 ≤ room → pieces s room ≡ printed s
pieces_printed s y a room h = pieces_joined s a room (λ k l. omega (arith, wide.lines_short s y a k l))

-- a refused page is the line that the call writes for the refusal's number and place
pub refusal_printed : (s : List ℕ) → accepted (page_answer s) ≡ false → refused_text (told (page_answer s)).number (told (page_answer s)).place ≡ printed s
unfolding refused_text refused_line
refusal_printed s h = sym (pages.printed_refused s h)

-- The lines and bytes of a text fit the bits that they are packed in: include/uq.h's uq_lines and uq_bytes give them whole.
use Prim.Native.Nat.{ℕ, zero, suc, ◌+◌, ◌*◌, ◌-◌, ◌/◌, ◌%◌, ◌≤◌, ◌<◌}
use mathlib.Core.Path.{◌≡◌, refl, sym, ap, ◌∙◌}
use mathlib.Core.Bool.{Bool, true, false}
use mathlib.Core.List.{List}
use native.Mathlib.Omega.{arith}
use native.Mathlib.Decide.{dec_lt}
use lib.ListN.{length, length-append}
use borrow.Author.Tests.{eq-eqb}
use Rattle.answer.specs.Answers.{told, accepted, Answer}
use Rattle.page.specs.Refusals.{page_answer, ending_count}
use Rattle.page.specs.Filled.{lines_on, page_line, lines_left, lines_answer, lines_taken, lines_bytes}
use Rattle.lawful.specs.Demand3.{Bytes}
use Rattle.printing.specs.Bounds.{line_room}
use Rattle.printing.specs.Lines.{refused_text, if_fits}
use Rattle.printing.proofs.Fittings as fits
use Rattle.printing.proofs.Short as short
use Rattle.filling.specs.Lines.{refusal_answer, refusal_bytes}
use Rattle.filling.proofs.Answers as answers
use Rattle.filling.proofs.Numbers as numbers
use Rattle.filling.proofs.Wide as wide
use Rattle.calls.specs.Packed.{packed, lines_of}
use Rattle.calls.specs.Texts.{lines_given, refusal_given}
use Rattle.judging.specs.Judged.{number_of, judged_in}
use Rattle.judging.proofs.Small.{judged_small}
use Rattle.judging.proofs.Turns.{number_le}
use Rattle.calls.specs.Judging.{judge_value, judge_answered, judge_given}
use Rattle.calls.proofs.Apart as apart

-- number 0 says that a call is taken
pub number_taken : (a : Answer) (v : ℕ) → packed (told a) v % 256 ≡ 0 → accepted a ≡ true
number_taken a v h =
    eq-eqb (told a).number 0 (sym (apart.number_back (told a) v (omega (arith, short.number_small a))) ∙ h)

-- what uq_lines and uq_bytes compute for a call that is taken
lines_whole : (a : Answer) (lines bytes : ℕ) → accepted a ≡ true → lines < 16777216 → packed (told a) (lines_of lines bytes) / 256 % 16777216 ≡ lines
lines_whole a lines bytes h l =
    ap (λ x. x % 16777216) (apart.value_back (told a) (lines_of lines bytes) h) ∙ apart.lines_back lines bytes l

bytes_whole : (a : Answer) (lines bytes : ℕ) → accepted a ≡ true → bytes < 4294967296 → packed (told a) (lines_of lines bytes) / 4294967296 ≡ bytes
bytes_whole a lines bytes h l =
    let r = packed (told a) (lines_of lines bytes) in
    let e : r / 4294967296 ≡ r / 256 / 16777216 = omega arith in
    e ∙ ap (λ x. x / 16777216) (apart.value_back (told a) (lines_of lines bytes) h) ∙ apart.bytes_back lines bytes l

-- ---- lines of a page

-- c lines from line k on, none of them longer than the longest
lines_long : (f : ℕ → List ℕ) (c k : ℕ) → ((j : ℕ) → k ≤ j → j < k + c → length (f j) ≤ line_room 64) → length (lines_on f k c) ≤ c * 731
lines_long f zero k h = omega (arith, ap length (fits.on_none f k))
lines_long f (suc c) k h =
    omega (
      arith,
      ap length (fits.on_cons f k c),
      length-append (f k) (lines_on f (suc k) c),
      h k (omega arith) (omega arith),
      lines_long f c (suc k) (λ j g l. h j (omega arith) (omega arith)),
    )

module _ (s : List ℕ) (k room : ℕ) (h : accepted (lines_answer s k room) ≡ true) where
  -- where lines are taken, the page is
  page_taken : accepted (page_answer s) ≡ true
  page_taken = by (accepted (page_answer s)) refl
    where
      by : (x : Bool) → accepted (page_answer s) ≡ x → accepted (page_answer s) ≡ true
      by true e = e
      by false e = ap accepted (answers.lines_refused s k room e) ∙ h

  taken_left : lines_taken s k room ≤ suc (ending_count s) - k
  unfolding lines_left
  taken_left = omega (arith, answers.taken_some s k room h, fits.fit_few (page_line s) (suc (ending_count s) - k) k room)

  taken_few : lines_taken s k room ≤ 65537
  taken_few = omega (arith, taken_left, numbers.count_few s page_taken)

  taken_long : Bytes s → length (lines_bytes s k room) ≤ 65537 * 731
  unfolding lines_bytes
  taken_long y =
      let i = lines_long (page_line s) (lines_taken s k room) k
      (λ j g l. wide.lines_short s y page_taken j (omega (arith, taken_left))) in
      omega (arith, i, taken_few)

-- at most 65,536 endings, and the first line
pub lines_few : (s : List ℕ) (k room : ℕ) → lines_taken s k room ≤ 65537
lines_few s k room = by (accepted (lines_answer s k room)) refl
  where
    by : (x : Bool) → accepted (lines_answer s k room) ≡ x → lines_taken s k room ≤ 65537
    by true e = taken_few s k room e
    by false e = omega (arith, answers.taken_none s k room e)

-- of at most 731 bytes each
pub bytes_few : (s : List ℕ) → Bytes s → (k room : ℕ) → length (lines_bytes s k room) < 4294967296
bytes_few s y k room = by (accepted (lines_answer s k room)) refl
  where
    by : (x : Bool) → accepted (lines_answer s k room) ≡ x → length (lines_bytes s k room) < 4294967296
    by true e = omega (arith, taken_long s k room e y)
    by false e = omega (arith, ap length (answers.bytes_none s k room e))

pub given_lines : (s : List ℕ) (k room : ℕ) → accepted (lines_answer s k room) ≡ true → lines_given s k room / 256 % 16777216 ≡ lines_taken s k room
given_lines s k room h = lines_whole (lines_answer s k room) _ _ h (omega (arith, lines_few s k room))

pub given_bytes : (s : List ℕ) → Bytes s → (k room : ℕ) → accepted (lines_answer s k room) ≡ true → lines_given s k room / 4294967296 ≡ length (lines_bytes s k room)
given_bytes s y k room h = bytes_whole (lines_answer s k room) _ _ h (bytes_few s y k room)

-- ---- the line of a refusal

-- the call's number and place have 32 bits
pub refusal_few : (n p room : ℕ) → n < 4294967296 → p < 4294967296 → length (refusal_bytes n p room) ≤ 33
unfolding refusal_bytes
refusal_few n p room q r = by (dec_lt room (length (refused_text n p)))
  where
    by : Dec (room < length (refused_text n p)) → length (if_fits room (refused_text n p)) ≤ 33
    by (yes h) = omega (arith, ap length (fits.fits_no room (refused_text n p) h))
    by (no h) = omega (arith, ap length (fits.fits_yes room (refused_text n p) (omega arith)), short.refused_wide n p q r)

pub refusal_lines : (n p room : ℕ) → accepted (refusal_answer n p room) ≡ true → refusal_given n p room / 256 % 16777216 ≡ 1
refusal_lines n p room h = lines_whole (refusal_answer n p room) 1 _ h (omega arith)

pub refusal_bytes_lem :
    (n p room : ℕ) → n < 4294967296 → p < 4294967296 → accepted (refusal_answer n p room) ≡ true
    → refusal_given n p room / 4294967296 ≡ length (refusal_bytes n p room)
refusal_bytes_lem n p room q r h = bytes_whole (refusal_answer n p room) 1 _ h (omega (arith, refusal_few n p room q r))

-- ---- a verdict: include/uq.h's uq_tries, uq_verdict and uq_order

module _ (s : List ℕ) (room : ℕ) (h : accepted (judge_answered s room) ≡ true) where
  tries_few : (judged_in s).tries < 16777216
  tries_few = omega (arith, (judged_small s).tries)

  verdict_few : number_of (judged_in s).verdict < 256
  verdict_few = omega (arith, number_le (judged_in s).verdict)

  value : judge_given s room / 256 ≡ judge_value (judged_in s)
  value = apart.value_back (told (judge_answered s room)) (judge_value (judged_in s)) h

  pub given_tries : judge_given s room / 256 % 16777216 ≡ (judged_in s).tries
  given_tries = ap (λ x. x % 16777216) value ∙ apart.tries_back (judged_in s).tries (number_of (judged_in s).verdict) (length (judged_in s).order) tries_few verdict_few

  pub given_verdict : judge_given s room / 256 / 16777216 % 256 ≡ number_of (judged_in s).verdict
  given_verdict = ap (λ x. x / 16777216 % 256) value ∙ apart.verdict_back (judged_in s).tries (number_of (judged_in s).verdict) (length (judged_in s).order) tries_few verdict_few

  pub given_order : judge_given s room / 256 / 4294967296 ≡ length (judged_in s).order
  given_order = ap (λ x. x / 4294967296) value ∙ apart.count_back (judged_in s).tries (number_of (judged_in s).verdict) (length (judged_in s).order) tries_few verdict_few

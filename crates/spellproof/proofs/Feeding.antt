-- Words and numbers read byte by byte: what the line is then.
use Prim.Native.Nat.{ℕ, zero, suc, ◌+◌, ◌-◌, ◌*◌, ◌/◌, ◌%◌, ◌≤◌, ◌<◌}
use mathlib.Core.Path.{◌≡◌, refl, sym, ap, subst₂, ◌∙◌}
use mathlib.Core.Bool.{false}
use mathlib.Core.List.{List, [], ◌∷◌, ◌++◌, append_assoc}
use native.Mathlib.Omega.{arith}
use native.Mathlib.Decide.{dec_lt}
use borrow.Author.Tests.{lt-ltb, le-leb, ne_eqb}
use Rattle.lists.specs.Text.{decimal}
use Rattle.printing.proofs.Decimal as decimals
use Rattle.page.specs.Printed.{newline}
use Rattle.spelling.specs.declared.Word.{Word}
use Rattle.spelling.specs.declared.Line.{Line}
use Rattle.spelling.specs.Words.{no_word, number, digit_more, grown, no_line, line_byte}
use Rattle.spelling.specs.Lines.{said, acts_from}

abbrev pub line : ℕ → List Word → Word → Line
line c ws w = record { remark = false; count = c; words = ws; word = w }

-- the text a makes the line l the line m
pub record Feeds (l : Line) (a : List ℕ) (m : Line) : Type 0 where
  pub on : (r : List ℕ) → acts_from l (a ++ r) ≡ acts_from m r

pub also : {l m n : Line} {a b : List ℕ} → Feeds l a m → Feeds m b n → Feeds l (a ++ b) n
also {l} {m} {n} {a} {b} f g = record { on = λ r. ap (acts_from l) (append_assoc a b r) ∙ f.on (b ++ r) ∙ g.on r }

-- the line's end
pub ends : {l m : Line} {a : List ℕ} → Feeds l a m → (r : List ℕ) → acts_from l (a ++ newline ++ r) ≡ said m ∷ acts_from no_line r
unfolding acts_from
ends {l} {m} {a} f r = ap (acts_from l) (append_assoc a newline r) ∙ f.on (newline ++ r)

-- ---- digits

digit_grown : (w : Word) (d : ℕ) → d < 10 → grown w (48 + d) ≡ digit_more w d
unfolding grown
digit_grown w d h =
    let e : 48 + d - 48 ≡ d = omega arith in
    rw (le-leb 48 (48 + d) (omega arith), le-leb (48 + d) 57 (omega arith)) (ap (digit_more w) e)

digit_line : (c : ℕ) (ws : List Word) (w : Word) (d : ℕ) → d < 10 → line_byte (line c ws w) (48 + d) ≡ line c ws (digit_more w d)
unfolding line_byte
digit_line c ws w d h =
    rw (ne_eqb (48 + d) 35 (λ e. omega arith), ne_eqb (48 + d) 32 (λ e. omega arith), ne_eqb (48 + d) 9 (λ e. omega arith), ne_eqb (48 + d) 13 (λ e. omega arith))
    (ap (line c ws) (digit_grown w d h))

fed : (l : Line) (x : ℕ) (r : List ℕ) → (x ≡ 10 → ⊥) → acts_from l (x ∷ r) ≡ acts_from (line_byte l x) r
unfolding acts_from
fed l x r h = rw (ne_eqb x 10 h, acts_from) refl

digit : (c : ℕ) (ws : List Word) (w : Word) (d : ℕ) → d < 10 → Feeds (line c ws w) ((48 + d) ∷ []) (line c ws (digit_more w d))
digit c ws w d h = record { on = λ r. fed (line c ws w) (48 + d) r (λ e. omega arith) ∙ ap (λ l. acts_from l r) (digit_line c ws w d h) }

first_digit : (d : ℕ) → digit_more no_word d ≡ number d
unfolding digit_more
first_digit d = refl

next_digit : (x d : ℕ) → x * 10 + d < 18446744073709551616 → digit_more (number x) d ≡ number (x * 10 + d)
unfolding digit_more
next_digit x d h = rw (lt-ltb (x * 10 + d) 18446744073709551616 h)

-- a number in decimal
module _ (c : ℕ) (ws : List Word) where
  one_digit : (x : ℕ) → x < 10 → Feeds (line c ws no_word) (decimal x) (line c ws (number x))
  one_digit x h = subst₂ (λ a w. Feeds (line c ws no_word) a (line c ws w)) (sym (decimals.decimal_one x h)) (first_digit x) (digit c ws no_word x h)

  one_more : (x : ℕ) → 10 ≤ x → x < 18446744073709551616 → Feeds (line c ws no_word) (decimal (x / 10)) (line c ws (number (x / 10)))
      → Feeds (line c ws no_word) (decimal x) (line c ws (number x))
  one_more x h g f =
      let e : x / 10 * 10 + x % 10 ≡ x = omega arith in
      subst₂ (λ a w. Feeds (line c ws no_word) a (line c ws w)) (sym (decimals.decimal_more x h))
      (next_digit (x / 10) (x % 10) (omega arith) ∙ ap number e) (also f (digit c ws (number (x / 10)) (x % 10) (omega arith)))

  digits : (k x : ℕ) → x ≤ k → x < 18446744073709551616 → Feeds (line c ws no_word) (decimal x) (line c ws (number x))
  digits zero x h g = one_digit x (omega arith)
  digits (suc k) x h g = by (dec_lt x 10) (λ q. digits k (x / 10) (omega arith) (omega arith))
    where
      by : Dec (x < 10) → (10 ≤ x → Feeds (line c ws no_word) (decimal (x / 10)) (line c ws (number (x / 10)))) → Feeds (line c ws no_word) (decimal x) (line c ws (number x))
      by (yes l) f = one_digit x l
      by (no l) f = one_more x (omega arith) g (f (omega arith))

  pub numbered : (x : ℕ) → x < 18446744073709551616 → Feeds (line c ws no_word) (decimal x) (line c ws (number x))
  numbered x = digits x x (omega arith)

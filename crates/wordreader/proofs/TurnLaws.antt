-- A text read byte by byte: one turn, and the end.
use Prim.Native.Nat.{ℕ, suc, ◌+◌, ◌≤◌, ◌<◌}
use mathlib.Core.Path.{◌≡◌, refl, sym, ap, ◌∙◌}
use mathlib.Core.Bool.{Bool, true, false}
use mathlib.Core.List.{List, [], ◌∷◌}
use native.Mathlib.Omega.{arith}
use native.Mathlib.Numerals.{add-one}
use lib.ListN.{length, get_or, drop}
use lib.ListN as ln
use lib.Seq.{drop-cons}
use lib.Dec.{eqb}
use Rattle.lists.specs.Find.{pick}
use Rattle.image.specs.declared.Shape.{Shape}
use Rattle.spelling.specs.declared.Line.{Line}
use Rattle.spelling.specs.declared.Act.{Act}
use Rattle.spelling.specs.declared.Survey.{Survey}
use Rattle.spelling.specs.Words.{no_line, line_byte}
use Rattle.spelling.specs.Lines.{said, acts_from, acts_of}
use Rattle.spelling.specs.Reading.{no_survey, surveyed, survey_from, survey_of, last_from, put_by, reach_by, put_all}
use Rattle.wordreader.specs.Turns.{line_next, number_next, survey_next, put_next, reach_next}

-- a line behind another
last_more : (i : ℕ) (a : Act) (l : Line) (t : List ℕ) → last_from i (a ∷ acts_from l t) ≡ last_from (suc i) (acts_from l t)
unfolding acts_from last_from
last_more i a l [] = refl
last_more i a l (x ∷ t) = by (eqb x 10) (last_more i a (line_byte l x) t)
  where
    by : (b : Bool) → last_from i (a ∷ acts_from (line_byte l x) t) ≡ last_from (suc i) (acts_from (line_byte l x) t)
        → last_from i (a ∷ (elim b as (λ _. List Act) [ true ↦ said l ∷ acts_from no_line t | false ↦ acts_from (line_byte l x) t ]))
        ≡ last_from (suc i) (elim b as (λ _. List Act) [ true ↦ said l ∷ acts_from no_line t | false ↦ acts_from (line_byte l x) t ])
    by true r = refl
    by false r = r

module _ (i : ℕ) (v : Survey) (l : Line) (x : ℕ) (t : List ℕ) where
  survey_byte : survey_from i v (acts_from l (x ∷ t)) ≡ survey_from (number_next i x) (survey_next i v l x) (acts_from (line_next l x) t)
  unfolding acts_from survey_from line_next number_next survey_next
  survey_byte = by (eqb x 10)
    where
      by : (b : Bool) → survey_from i v (elim b as (λ _. List Act) [ true ↦ said l ∷ acts_from no_line t | false ↦ acts_from (line_byte l x) t ])
          ≡ survey_from (pick b (i + 1) i) (pick b (surveyed i v (said l)) v) (acts_from (pick b no_line (line_byte l x)) t)
      by true = ap (λ n. survey_from n (surveyed i v (said l)) (acts_from no_line t)) (sym (add-one i))
      by false = refl

  last_byte : last_from i (acts_from l (x ∷ t)) ≡ last_from (number_next i x) (acts_from (line_next l x) t)
  unfolding acts_from line_next number_next
  last_byte = by (eqb x 10)
    where
      by : (b : Bool) → last_from i (elim b as (λ _. List Act) [ true ↦ said l ∷ acts_from no_line t | false ↦ acts_from (line_byte l x) t ])
          ≡ last_from (pick b (i + 1) i) (acts_from (pick b no_line (line_byte l x)) t)
      by true = last_more i (said l) no_line t ∙ ap (λ n. last_from n (acts_from no_line t)) (sym (add-one i))
      by false = refl

-- at the code's numbers
module _ (t : List ℕ) (k i : ℕ) (v : Survey) (l : Line) where
  byte_at : k < length t → drop k t ≡ get_or t k 0 ∷ drop (k + 1) t
  byte_at h = drop-cons t k 0 h ∙ ap (λ n. get_or t k 0 ∷ drop n t) (sym (add-one k))

  pub survey_turn : k < length t → survey_from i v (acts_from l (drop k t))
      ≡ survey_from (number_next i (get_or t k 0)) (survey_next i v l (get_or t k 0)) (acts_from (line_next l (get_or t k 0)) (drop (k + 1) t))
  survey_turn h = ap (λ r. survey_from i v (acts_from l r)) (byte_at h) ∙ survey_byte i v l (get_or t k 0) (drop (k + 1) t)

  pub last_turn : k < length t → last_from i (acts_from l (drop k t)) ≡ last_from (number_next i (get_or t k 0)) (acts_from (line_next l (get_or t k 0)) (drop (k + 1) t))
  last_turn h = ap (λ r. last_from i (acts_from l r)) (byte_at h) ∙ last_byte i v l (get_or t k 0) (drop (k + 1) t)

  pub survey_end : length t ≤ k → survey_from i v (acts_from l (drop k t)) ≡ surveyed i v (said l)
  unfolding acts_from survey_from
  survey_end h = ap (λ r. survey_from i v (acts_from l r)) (ln.drop_of_length-le t h)

  pub last_end : length t ≤ k → last_from i (acts_from l (drop k t)) ≡ i
  unfolding acts_from last_from
  last_end h = ap (λ r. last_from i (acts_from l r)) (ln.drop_of_length-le t h)

pub survey_start : (t : List ℕ) → survey_of t ≡ survey_from 0 no_survey (acts_from no_line (drop 0 t))
unfolding survey_of acts_of
survey_start t = refl

pub last_start : (t : List ℕ) → last_from 0 (acts_of t) ≡ last_from 0 (acts_from no_line (drop 0 t))
unfolding acts_of
last_start t = refl

pub number_le : (i x k : ℕ) → i ≤ k → number_next i x ≤ k + 1
unfolding number_next
number_le i x k h = by (eqb x 10)
  where
    by : (b : Bool) → pick b (i + 1) i ≤ k + 1
    by true = omega arith
    by false = omega arith

-- ---- what the lines put

module _ (g : Shape) (z : ℕ) (b : List ℕ) (p : ℕ) (l : Line) (x : ℕ) (t : List ℕ) where
  put_byte : put_all g z b p (acts_from l (x ∷ t)) ≡ put_all g z (put_next g z b p l x) (reach_next z p l x) (acts_from (line_next l x) t)
  unfolding acts_from put_all line_next put_next reach_next
  put_byte = by (eqb x 10)
    where
      by : (c : Bool) → put_all g z b p (elim c as (λ _. List Act) [ true ↦ said l ∷ acts_from no_line t | false ↦ acts_from (line_byte l x) t ])
          ≡ put_all g z (pick c (put_by g z b p (said l)) b) (pick c (reach_by z p (said l)) p) (acts_from (pick c no_line (line_byte l x)) t)
      by true = refl
      by false = refl

module _ (t : List ℕ) (k : ℕ) (g : Shape) (z : ℕ) (b : List ℕ) (p : ℕ) (l : Line) where
  pub put_turn : k < length t → put_all g z b p (acts_from l (drop k t))
      ≡ put_all g z (put_next g z b p l (get_or t k 0)) (reach_next z p l (get_or t k 0)) (acts_from (line_next l (get_or t k 0)) (drop (k + 1) t))
  put_turn h =
      ap (λ r. put_all g z b p (acts_from l r)) (drop-cons t k 0 h ∙ ap (λ n. get_or t k 0 ∷ drop n t) (sym (add-one k)))
      ∙ put_byte g z b p l (get_or t k 0) (drop (k + 1) t)

  pub put_end : length t ≤ k → put_all g z b p (acts_from l (drop k t)) ≡ put_by g z b p (said l)
  unfolding acts_from put_all
  put_end h = ap (λ r. put_all g z b p (acts_from l r)) (ln.drop_of_length-le t h)

pub put_start : (t : List ℕ) (g : Shape) (z : ℕ) (b : List ℕ) (p : ℕ) → put_all g z b p (acts_of t) ≡ put_all g z b p (acts_from no_line (drop 0 t))
unfolding acts_of
put_start t g z b p = refl

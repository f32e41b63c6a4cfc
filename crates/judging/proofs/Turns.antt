-- The search one candidate at a time, at the code's numbers. Assumes nothing.
use Prim.Native.Nat.{ℕ, zero, suc, ◌+◌, ◌-◌, ◌≤◌, ◌<◌}
use mathlib.Core.Path.{◌≡◌, refl, sym, ap, ap₂, ◌∙◌}
use mathlib.Core.Bool.{Bool, true, false}
use mathlib.Core.List.{List, [], ◌∷◌, ◌++◌}
use mathlib.Core.Option.{Option, none, some}
use native.Mathlib.Omega.{arith}
use lib.ListN.{length}
use borrow.Author.Tests.{lt-ltb, le-ltb}
use Rattle.lists.specs.Find.{pick, least}
use Rattle.lists.proofs.FindLaws as find
use Rattle.answer.specs.Answers.{accepted}
use Rattle.lawful.specs.Operation.{Operation}
use Rattle.judging.specs.History.{count_in, first_in, last_in, operations_in, history_answer}
use Rattle.judging.specs.Search.{Verdict, lawful, unlawful, undecided, Judged, judged, taking, finished, or_else, consider, scan, searched, asked, enough, judged_of}
use Rattle.judging.specs.Place.{no_bytes, padded, order_in, queue_in, is_finished, is_eligible, next_from, took, fresh, Ready}
use Rattle.judging.specs.Judged.{number_of, said_of, said_none, said_at, searched_at, asked_at, judged_in}
use Rattle.judging.specs.declared.Place.{Place}
use Rattle.judging.specs.declared.Verdict.TheVariants.{Unlawful, Undecided}
use Rattle.judging.proofs.Taken.{operation_count}
use Rattle.judging.proofs.Shown as shown

-- ---- what is said

pub said_none_lem : (t : ℕ) → said_of (judged unlawful t []) ≡ said_none Unlawful t
unfolding padded no_bytes
said_none_lem t = refl

pub said_undecided : (t : ℕ) → said_of (judged undecided t []) ≡ said_none Undecided t
unfolding padded no_bytes
said_undecided t = refl

pub number_le : (v : Verdict) → number_of v ≤ 2
number_le lawful = omega arith
number_le unlawful = omega arith
number_le undecided = omega arith

-- ---- the definition's turns

module _ (more : ℕ → Bool) (ops : List Operation) (last : List ℕ) where
  none_left : (m n : ℕ) (o q : List ℕ) (i t : ℕ) → i ≡ n → asked more ops last m (n - i) o q i t ≡ judged unlawful t []
  unfolding scan
  none_left zero n o q i t e = refl
  none_left (suc m) n o q i t e =
      let z : n - i ≡ 0 = omega arith in
      ap (λ (k : ℕ). scan more ops (searched more ops last m) k o q i t) z

  turn : (m n : ℕ) (o q : List ℕ) (i t : ℕ) → 0 < m → i < n → (x : Option (List ℕ)) → taking ops o q i ≡ x
      → asked more ops last m (n - i) o q i t
      ≡ consider more (searched more ops last (m - 1) (o ++ (i ∷ []))) (asked more ops last m (n - (i + 1)) o q (i + 1)) t x
  unfolding scan
  turn zero n o q i t p h x e = absurd (omega arith)
  turn (suc m) n o q i t p h x e =
      let z : n - i ≡ suc (n - (i + 1)) = omega arith in
      let w : suc i ≡ i + 1 = omega arith in
      let d : suc m - 1 ≡ m = omega arith in
      ap (λ (k : ℕ). scan more ops (searched more ops last m) k o q i t) z
      ∙ ap₂ (λ (y : Option (List ℕ)) (k : ℕ). consider more (searched more ops last m (o ++ (i ∷ []))) (scan more ops (searched more ops last m) (n - (i + 1)) o q k) t y) e w
      ∙ ap (λ (k : ℕ). consider more (searched more ops last k (o ++ (i ∷ []))) (scan more ops (searched more ops last m) (n - (i + 1)) o q (i + 1)) t x) (sym d)

  opened : (m : ℕ) (o q : List ℕ) (t : ℕ) → finished ops last o q ≡ false → searched more ops last m o q t ≡ asked more ops last m (length ops) o q 0 t
  unfolding searched
  opened zero o q t e = rw (e, searched)
  opened (suc m) o q t e = rw (e, searched)

  closed : (m : ℕ) (o q : List ℕ) (t : ℕ) → finished ops last o q ≡ true → searched more ops last m o q t ≡ judged lawful t o
  unfolding searched
  closed zero o q t e = rw (e, searched)
  closed (suc m) o q t e = rw (e, searched)

least_from : (f : ℕ → Bool) (k i : ℕ) → i ≤ least f k i
unfolding least
least_from f zero i = omega arith
least_from f (suc k) i = by (f i) (least_from f k (suc i))
  where
    by : (b : Bool) → suc i ≤ least f k (suc i) → i ≤ pick b i (least f k (suc i))
    by true h = omega arith
    by false h = omega (arith, h)

-- ---- the same at a place

or_hit : (v : Verdict) (r : Judged) (go : ℕ → Judged) → (number_of v ≡ 0 → ⊥) → or_else v r go ≡ r
or_hit lawful r go n = refl
or_hit unlawful r go n = absurd (n refl)
or_hit undecided r go n = refl

or_miss : (v : Verdict) (r : Judged) (go : ℕ → Judged) → number_of v ≡ 0 → or_else v r go ≡ go r.tries
or_miss lawful r go e = absurd (omega arith)
or_miss unlawful r go e = refl
or_miss undecided r go e = absurd (omega arith)

module _ (s : List ℕ) (m : ℕ) (x : Place) (r : Ready s m x) where
  pub at_none : (n i t : ℕ) → i ≡ n → said_none Unlawful t ≡ said_of (asked_at s m (n - i) x i t)
  unfolding asked_at
  at_none n i t e = sym (ap said_of (none_left enough (operations_in s) (last_in s) m n (order_in x) (queue_in s x) i t e) ∙ said_none_lem t)

  module _ (n i t : ℕ) (en : n ≡ count_in s) (h : i < n) (z : 0 < m) where
    within : i < count_in s
    within = omega arith

    abbrev Next : Judged
    Next = searched_at s (m - 1) (took s x i) (t + 1)

    abbrev Rest : ℕ → Judged
    Rest u = asked_at s m (n - (i + 1)) x (i + 1) u

    take_of : (b : Bool) → is_eligible s x i ≡ b
        → taking (operations_in s) (order_in x) (queue_in s x) i ≡ elim b as (λ _. Option (List ℕ)) [ true ↦ some (queue_in s (took s x i)) | false ↦ none ]
    take_of b e =
        shown.taking_is s m x r i within z
        ∙ ap₂ (λ (c : Bool) (q : List ℕ). elim c as (λ _. Option (List ℕ)) [ true ↦ some q | false ↦ none ]) e (sym (shown.queue_took s m x r i within z))

    pub skips : is_eligible s x i ≡ false → asked_at s m (n - i) x i t ≡ Rest t
    unfolding asked_at
    skips e = turn enough (operations_in s) (last_in s) m n (order_in x) (queue_in s x) i t z h none (take_of false e)

    module _ (e : is_eligible s x i ≡ true) where
      tried : asked_at s m (n - i) x i t
          ≡ consider enough (searched enough (operations_in s) (last_in s) (m - 1) (order_in x ++ (i ∷ []))) (asked enough (operations_in s) (last_in s) m (n - (i + 1)) (order_in x) (queue_in s x) (i + 1)) t (some (queue_in s (took s x i)))
      unfolding asked_at
      tried = turn enough (operations_in s) (last_in s) m n (order_in x) (queue_in s x) i t z h (some (queue_in s (took s x i))) (take_of true e)

      pub stops : 1000000 ≤ t → asked_at s m (n - i) x i t ≡ judged undecided t []
      stops l = tried ∙ ap (λ (b : Bool). elim b as (λ _. Judged) [
        | true ↦ (let y = searched enough (operations_in s) (last_in s) (m - 1) (order_in x ++ (i ∷ [])) (queue_in s (took s x i)) (suc t) in or_else y.verdict y (asked enough (operations_in s) (last_in s) m (n - (i + 1)) (order_in x) (queue_in s x) (i + 1)))
        | false ↦ judged undecided t []
      ]) (le-ltb t 1000000 l)

      tries : t < 1000000 → asked_at s m (n - i) x i t ≡ or_else Next.verdict Next Rest
      unfolding asked_at searched_at
      tries l =
          let w : suc t ≡ t + 1 = omega arith in
          tried ∙ ap (λ (b : Bool). elim b as (λ _. Judged) [
            | true ↦ (let y = searched enough (operations_in s) (last_in s) (m - 1) (order_in x ++ (i ∷ [])) (queue_in s (took s x i)) (suc t) in or_else y.verdict y (asked enough (operations_in s) (last_in s) m (n - (i + 1)) (order_in x) (queue_in s x) (i + 1)))
            | false ↦ judged undecided t []
          ]) (lt-ltb t 1000000 l)
          ∙ ap₂ (λ (o : List ℕ) (u : ℕ). (let y = searched enough (operations_in s) (last_in s) (m - 1) o (queue_in s (took s x i)) u in or_else y.verdict y Rest)) (sym (shown.order_took s m x r i within z)) w

      pub hits : t < 1000000 → (number_of Next.verdict ≡ 0 → ⊥) → asked_at s m (n - i) x i t ≡ Next
      hits l n = tries l ∙ or_hit Next.verdict Next Rest n

      pub misses : t < 1000000 → number_of Next.verdict ≡ 0 → asked_at s m (n - i) x i t ≡ Rest Next.tries
      misses l e = tries l ∙ or_miss Next.verdict Next Rest e

  -- candidates that are not eligible are passed over
  passes : (n t : ℕ) → n ≡ count_in s → 0 < m → (k i : ℕ) → n - i ≡ k
      → asked_at s m (n - i) x i t ≡ asked_at s m (n - least (is_eligible s x) (n - i) i) x (least (is_eligible s x) (n - i) i) t
  passes n t en z zero i e = rw (find.least_end (is_eligible s x) n i (omega arith))
  passes n t en z (suc k) i e = by (is_eligible s x i) refl (passes n t en z k (i + 1) (omega arith))
    where
      by : (b : Bool) → is_eligible s x i ≡ b
          → asked_at s m (n - (i + 1)) x (i + 1) t ≡ asked_at s m (n - least (is_eligible s x) (n - (i + 1)) (i + 1)) x (least (is_eligible s x) (n - (i + 1)) (i + 1)) t
          → asked_at s m (n - i) x i t ≡ asked_at s m (n - least (is_eligible s x) (n - i) i) x (least (is_eligible s x) (n - i) i) t
      by true h g = rw (find.least_hit (is_eligible s x) n i (omega arith) h)
      by false h g =
          rw (find.least_next (is_eligible s x) n i (omega arith) h)
          (skips n i t en (omega arith) z h ∙ g)

  pub passes_to : (n i t : ℕ) → n ≡ count_in s → 0 < m → asked_at s m (n - i) x i t ≡ asked_at s m (n - next_from s x i) x (next_from s x i) t
  unfolding next_from
  passes_to n i t en z = passes n t en z (n - i) i refl ∙ ap (λ (k : ℕ). asked_at s m (n - least (is_eligible s x) (k - i) i) x (least (is_eligible s x) (k - i) i) t) en

  pub next_le : (i : ℕ) → i ≤ count_in s → (i ≤ next_from s x i) × (next_from s x i ≤ count_in s)
  unfolding next_from
  next_le i h = (least_from (is_eligible s x) (count_in s - i) i, omega (arith, find.least_le (is_eligible s x) (count_in s - i) i))

  pub next_eligible : (i : ℕ) → i ≤ count_in s → next_from s x i < count_in s → is_eligible s x (next_from s x i) ≡ true
  unfolding next_from
  next_eligible i h l = find.least_found (is_eligible s x) (count_in s - i) i (omega (arith, l))

  pub goes_on_lem : (n t : ℕ) → n ≡ count_in s → is_finished s x ≡ false → searched_at s m x t ≡ asked_at s m (n - 0) x 0 t
  unfolding searched_at asked_at
  goes_on_lem n t en e =
      let k : length (operations_in s) ≡ n - 0 = omega (arith, operation_count s) in
      opened enough (operations_in s) (last_in s) m (order_in x) (queue_in s x) t (shown.finished_is s m x r ∙ e)
      ∙ ap (λ (k : ℕ). asked enough (operations_in s) (last_in s) m k (order_in x) (queue_in s x) 0 t) k

  pub ends : (t : ℕ) → is_finished s x ≡ true → said_at x t ≡ said_of (searched_at s m x t)
  unfolding searched_at
  ends t e =
      rw (closed enough (operations_in s) (last_in s) m (order_in x) (queue_in s x) t (shown.finished_is s m x r ∙ e), shown.order_length s m x r, ← r.order)

-- ---- from the beginning

pub begins : (s : List ℕ) → searched_at s (count_in s) (fresh s) 0 ≡ judged_of (operations_in s) (first_in s) (last_in s)
unfolding searched_at
begins s = rw (shown.order_fresh s, shown.queue_fresh s, operation_count s)

-- ---- beside a refusal, and without one

pub judged_refused : (s : List ℕ) → accepted (history_answer s) ≡ false → judged_in s ≡ judged unlawful 0 []
unfolding judged_in
judged_refused s e = rw e

pub judged_taken : (s : List ℕ) → accepted (history_answer s) ≡ true → judged_in s ≡ judged_of (operations_in s) (first_in s) (last_in s)
unfolding judged_in
judged_taken s e = rw e

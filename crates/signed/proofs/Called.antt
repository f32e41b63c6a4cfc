-- What demand 3 gives a host of the static library.
use Prim.Native.Nat.{ℕ, ◌<◌, ◌≤◌, ◌/◌, ◌%◌}
use mathlib.Core.Path.{◌≡◌, refl, sym, ap, subst, ◌∙◌}
use mathlib.Core.Bool.{Bool, true, false}
use mathlib.Core.List.{List}
use native.Mathlib.Omega.{arith}
use borrow.Author.Tests.{eqb-true}
use lib.ListN.{length}
use lib.Dec.{eqb}
use Rattle.lists.specs.Tab.{over}
use Rattle.answer.specs.Answers.{told, accepted, Answer, Taken}
use Rattle.answer.specs.declared.Told.{Told}
use Rattle.image.specs.Layout.{image_bytes}
use Rattle.page.specs.Refusals.{page_answer, ending_count, ending_in, ending_written}
use Rattle.lawful.specs.Demand3.{Bytes}
use Rattle.printing.proofs.Short.{number_small}
use Rattle.runs.specs.Paged.{count_of}
use Rattle.calls.specs.Calls.{endings_counted, ending_given}
use Rattle.calls.specs.Packed.{packed}
use Rattle.calls.proofs.Apart.{number_back, value_back, place_back}
use Rattle.signed.specs.Signed.{ending_size}
use Rattle.signed.specs.Called.{CountsC, WritesC, PageC, SignedC, AllSignedC}
use Rattle.endread.proofs.Bytes.{ending_taken, ending_held}
use Rattle.signed.proofs.Demand3.{demand3, count_all}

module _ (s : List ℕ) (bytes : Bytes s) (r : ℕ) (c : CountsC s r) where
  is : r ≡ packed (told (page_answer s)) (count_of s)
  is = c.3 ∙ ap endings_counted c.2

  number : r % 256 ≡ (told (page_answer s)).number
  number = ap (λ n. n % 256) is ∙ number_back (told (page_answer s)) (count_of s) (omega (arith, number_small (page_answer s)))

  place : accepted (page_answer s) ≡ false → r / 256 ≡ (told (page_answer s)).place
  place h = ap (λ n. n / 256) is ∙ place_back (told (page_answer s)) (count_of s) (omega (arith, number_small (page_answer s))) h

  page : accepted (page_answer s) ≡ true → PageC s r
  unfolding packed
  page h = record {
    count = all;
    holds = (demand3 s bytes h).0;
    lawful = (demand3 s bytes h).1;
    endings = λ k lt b l q z w. written k (subst (λ (n : ℕ). k < n) all lt) b l q z w;
  }
    where
      all : r / 256 ≡ ending_count s
      all = ap (λ n. n / 256) is ∙ value_back (told (page_answer s)) (count_of s) h ∙ count_all s h

      written : (k : ℕ) → k < ending_count s → (b : List ℕ) → ending_size s ≤ length b → (q : ℕ) (z : List ℕ) → WritesC s k b q z
          → (q ≡ 0) × (z ≡ over b 0 (image_bytes (ending_in s k)))
      written k lt b l q z (κs, x, y, y', e, f, g, p) = (
        p.0 ∙ ap (λ (t : List ℕ). ending_given t k (length y.now)) e ∙ ap (λ (t : List ℕ). ending_given s k (length t)) f
            ∙ ap (λ (t : Answer). packed (told t) 0) (ending_taken s h k lt (length b) l),
        sym g ∙ p.1 ∙ ap (λ (t : List ℕ). ending_written t k y.now) e ∙ ap (λ (t : List ℕ). ending_written s k t) f ∙ ending_held s h k lt b l,
      )

  same : eqb (r % 256) 0 ≡ accepted (page_answer s)
  same = ap (λ n. eqb n 0) number

  signed_one : SignedC s r
  signed_one = record {
    refused = λ f. (number, place (sym same ∙ f));
    taken = λ t. page (sym same ∙ t);
  }

pub signed_c : AllSignedC
signed_c s bytes r c = signed_one s bytes r c

-- A fresh machine is the start of the all-zero image, which is accepted. Assumes nothing.
use Prim.Native.Nat.{ℕ, zero, suc, ◌≤◌, ◌<◌}
use mathlib.Core.Path.{◌≡◌, ap, ◌∙◌}
use mathlib.Core.Bool.{true, false}
use native.Mathlib.Omega.{arith}
use borrow.Author.Tests.{le-leb, le-ltb, ne_eqb}
use lib.Dec.{ltb}
use Rattle.lists.specs.Find.{least}
use Rattle.lists.proofs.FindLaws as find
use Rattle.answer.specs.Answers.{accepted, Taken}
use Rattle.image.specs.declared.Content.{Content}
use Rattle.image.specs.Form.{head_lines, per_desk}
use Rattle.image.specs.Layout.{no_content, no_contents, no_heads, content_at}
use Rattle.image.specs.Recovered.{recovered, recovered_at, twins, has_twin, first_unclear, first_twin, dummy_of}
use Rattle.image.specs.Form.{known}
use Rattle.image.specs.Refusals.{startable, sound, whole}
use Rattle.image.proofs.SoundLaws.{Fitting, is_fitting}
use Rattle.machine.specs.Start.{zero_image, fresh_of, start_answer, fresh_from}
use Rattle.machine.specs.Range.{in_range}
use Rattle.machine.proofs.AnswerLaws.{start_taken}
use Rattle.machine.proofs.FlushLaws.{same_at}
use Rattle.machine.proofs.RangeLaws.{start_in_range}

zero_at : (i : ℕ) → content_at no_contents i ≡ no_content
unfolding no_contents
zero_at i = same_at 64 no_content i

module _ (n : ℕ) where
  zero_unrecovered : (i : ℕ) → recovered_at (zero_image n) i ≡ false
  unfolding recovered
  zero_unrecovered i = rw (zero_at i)

  zero_clear : first_unclear (zero_image n) ≡ n
  unfolding first_unclear
  zero_clear = find.least_none (λ i. ltb 1 (content_at no_contents i).linked) n 0 (λ i a b. rw (zero_at i)) ∙ omega arith

  zero_twins : (i j : ℕ) → twins (zero_image n) i j ≡ false
  unfolding twins
  zero_twins i j = rw (zero_unrecovered i)

  zero_single : first_twin (zero_image n) ≡ n
  unfolding first_twin has_twin
  zero_single =
      find.least_none (has_twin (zero_image n)) n 0 (λ i a b. find.any_none (twins (zero_image n) i) i (λ j h. zero_twins i j)) ∙ omega arith

zero_dummy : (n : ℕ) → 0 < n → dummy_of (zero_image n) ≡ 0
unfolding dummy_of least
zero_dummy zero h = absurd (omega arith)
zero_dummy (suc n) h = rw (zero_unrecovered (suc n) 0)

zero_fits : (n : ℕ) → Fitting (zero_image n)
unfolding no_heads head_lines
zero_fits n = record {
  head = λ k h. let z : k ≡ 0 = omega (arith, h) in rw z (omega arith);
  at = λ i h. let e = ap (λ (c : Content). c.index) (zero_at i) in omega (arith, e);
}

-- the all-zero image of 2 to 64 nodes is taken, with 1 to 8 threads
pub zero_taken : (n t : ℕ) → 2 ≤ n → n ≤ 64 → 1 ≤ t → t ≤ 8 → start_answer (zero_image n) t ≡ Taken
unfolding start_answer whole sound startable known per_desk
zero_taken n t a b c d =
    let m = zero_dummy n (omega arith) in
    rw (
      le-leb 1 t c,
      le-leb t 8 d,
      le-leb 2 n a,
      le-leb n 64 b,
      le-ltb (first_unclear (zero_image n)) n (omega (arith, zero_clear n)),
      le-ltb (first_twin (zero_image n)) n (omega (arith, zero_single n)),
      ne_eqb (dummy_of (zero_image n)) n (λ e. omega (arith, m, e)),
    )
    (is_fitting (zero_image n) Taken (zero_fits n))

-- so the fresh machine is its start, with node 0 as the dummy
pub fresh_taken : (n t : ℕ) → 2 ≤ n → n ≤ 64 → 1 ≤ t → t ≤ 8 → fresh_from n t ≡ record { answer = Taken; machine = fresh_of n t }
unfolding fresh_from
fresh_taken n t a b c d = start_taken (zero_image n) t (zero_taken n t a b c d)

pub fresh_in_range : (n t : ℕ) → 2 ≤ n → n ≤ 64 → 1 ≤ t → t ≤ 8 → in_range (fresh_of n t) ≡ true
fresh_in_range n t a b c d = start_in_range (zero_image n) t (ap accepted (zero_taken n t a b c d))

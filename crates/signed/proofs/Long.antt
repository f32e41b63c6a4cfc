-- What is longer than the longest schedule is refused, and printed as its first part is, however it goes on.
use Prim.Native.Nat.{ℕ, ◌≤◌, ◌<◌}
use mathlib.Core.Path.{◌≡◌, refl, sym, ap, ◌∙◌}
use mathlib.Core.Bool.{Bool, true, false}
use mathlib.Core.List.{List}
use native.Mathlib.Omega.{arith}
use lib.ListN.{length, take}
use lib.Seq.{length-take-le}
use Rattle.answer.specs.Answers.{accepted}
use Rattle.page.specs.Refusals.{page_answer}
use Rattle.page.specs.Printed.{refused_line, printed}
use Rattle.codec.proofs.Long.{long_refused, long_same}
use Rattle.runs.proofs.PageLaws.{page_bytes}

module _ (s : List ℕ) (long : 25430 < length s) where
  pub page_refused : accepted (page_answer s) ≡ false
  page_refused = ap accepted (sym (page_bytes s (long_refused s long))) ∙ long_refused s long

  refused_printed : printed s ≡ refused_line (page_answer s)
  unfolding printed
  refused_printed = rw (page_refused, printed) refl

module _ (s : List ℕ) (room : ℕ) (long : 25430 < room) (h : room ≤ length s) where
  first_long : 25430 < length (take room s)
  first_long = omega (arith, length-take-le room s h)

  pub page_same : page_answer (take room s) ≡ page_answer s
  page_same =
      sym (page_bytes (take room s) (long_refused (take room s) first_long)) ∙ long_same s room long h
      ∙ page_bytes s (long_refused s (omega arith))

  pub printed_same : printed (take room s) ≡ printed s
  printed_same = refused_printed (take room s) first_long ∙ ap refused_line page_same ∙ sym (refused_printed s (omega arith))

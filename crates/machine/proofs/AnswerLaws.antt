-- What a start answers, test by test, and what it hands back. Assumes nothing.
use Prim.Native.Nat.{ℕ}
use mathlib.Core.Path.{◌≡◌, refl, ap, ap₂, ◌∙◌}
use mathlib.Core.Bool.{Bool, true, false}
use Rattle.std.specs.Prelude.{Ok, Err}
use Rattle.answer.specs.Answers.{accepted, given, Answer, Taken, Threads}
use Rattle.answer.proofs.Results.{went_on, came_back}
use Rattle.image.specs.declared.Image.{Image}
use Rattle.image.specs.Layout.{image_shape}
use Rattle.image.specs.Refusals.{threads_fit, shape_answer, whole}
use Rattle.image.proofs.ShapeLaws.{Shaped, shape_then, shape_else}
use Rattle.image.proofs.SoundLaws.{whole_then}
use Rattle.machine.specs.Start.{start_of, blank_machine, start_answer, start_from}
use Rattle.machine.specs.Laid.{refused_start}
use Rattle.machine.specs.declared.Out.{Out}

abbrev handed : Image → ℕ → Bool → Answer → Out
handed g t b a = elim b as (λ _. Out) [ true ↦ record { answer = a; machine = start_of g t } | false ↦ record { answer = a; machine = blank_machine } ]

module _ (g : Image) (t : ℕ) where
  pub start_refused : (a : Answer) → start_answer g t ≡ a → accepted a ≡ false → start_from g t ≡ refused_start a
  unfolding start_from
  start_refused a e f = ap₂ (handed g t) (ap accepted e ∙ f) e

  pub start_taken : start_answer g t ≡ Taken → start_from g t ≡ record { answer = Taken; machine = start_of g t }
  unfolding start_from
  start_taken e = ap₂ (handed g t) (ap accepted e) e

  -- what the call gives: the machine, or a refusal and nothing beside it
  pub start_given : (a : Answer) → start_answer g t ≡ a → given (start_from g t).answer (start_from g t).machine ≡ given a (start_of g t)
  unfolding start_from
  start_given (Ok r) e = ap (λ (o : Out). given o.answer o.machine) (ap₂ (handed g t) (went_on refl e) e)
  start_given (Err x) e = ap (λ (o : Out). given o.answer o.machine) (ap₂ (handed g t) (came_back refl e) e)

  pub answer_threads : threads_fit t ≡ false → start_answer g t ≡ Threads
  unfolding start_answer
  answer_threads e = rw e

  pub answer_shape : threads_fit t ≡ true → (a : Answer) → shape_answer t (image_shape g) Taken ≡ a → accepted a ≡ false → start_answer g t ≡ a
  unfolding start_answer
  answer_shape e a h f = rw e (shape_else t (image_shape g) (whole g Taken) (ap accepted h ∙ f) ∙ h)

  pub answer_whole : threads_fit t ≡ true → Shaped t (image_shape g) → start_answer g t ≡ whole g Taken
  unfolding start_answer
  answer_whole e k = rw e (shape_then t (image_shape g) (whole g Taken) k)

-- contents that are not taken are refused
pub whole_refused : (g : Image) → (whole g Taken ≡ Taken → ⊥) → accepted (whole g Taken) ≡ false
whole_refused g h = by (accepted (whole g Taken)) refl
  where
    by : (b : Bool) → accepted (whole g Taken) ≡ b → b ≡ false
    by true e = absurd (h (whole_then g Taken e))
    by false e = refl

-- What calls give where they are taken: no other way is left behind a `?`.
use Prim.Native.Nat.{ℕ}
use mathlib.Core.Path.{◌≡◌, refl, sym, ap, ◌∙◌}
use mathlib.Core.Bool.{true, false}
use Rattle.std.specs.Prelude.{Result, Ok, Err}
use Rattle.std.specs.Result.{IsErrAnd}
use Rattle.lists.proofs.BoolLaws.{no_way}
use Rattle.answer.specs.Answers.{Answer, accepted, given}
use Rattle.answer.specs.declared.Refusal.{Refusal}
use Rattle.answer.proofs.Results.{came_back, given_taken, given_refused, handed_none}
use Rattle.image.specs.Refusals.{Read}
use Rattle.image.specs.declared.Image.{Image}
use Rattle.machine.specs.Start.{start_of, start_answer, start_from}
use Rattle.machine.specs.declared.Machine.{Machine}
use Rattle.machine.specs.declared.Out.{Out}
use Rattle.page.specs.Refusals.{and_then}
use Rattle.parcels.specs.Started.{started_from}

pub given_ok : {A : Type 0} (a : Answer) (x : A) → accepted a ≡ true → given a x ≡ Ok x
given_ok (Ok r) x h = refl
given_ok (Err e) x h = no_way (sym h ∙ came_back {a = Err e} refl refl)

pub ok_is : {A : Type 0} {x y : A} → ◌≡◌ {A = Result A Refusal} (Ok x) (Ok y) → x ≡ y
ok_is e = cc

pub no_ok : {A : Type 0} {x : A} {w : Refusal} → ◌≡◌ {A = Result A Refusal} (Err w) (Ok x) → ⊥
no_ok e = cc

starts_as : (g : Image) (t : ℕ) → accepted (start_answer g t) ≡ true → start_from g t ≡ record { answer = start_answer g t; machine = start_of g t }
unfolding start_from
starts_as g t h = rw (start_from, h) refl

pub start_given : (g : Image) (t : ℕ) → accepted (start_answer g t) ≡ true → ◌≡◌ {A = Result Machine Refusal} (given (start_from g t).answer (start_from g t).machine) (Ok (start_of g t))
start_given g t h = ap (λ (o : Out). given o.answer o.machine) (starts_as g t h) ∙ given_ok (start_answer g t) (start_of g t) h

-- ---- an image that was read, started

module _ (t : ℕ) (q : Read) where
  abbrev after : Out
  after = start_from q.image t

  pub read_refused : {r : Result Image Refusal} {w : Refusal} {b : Result Machine Refusal} → r ≡ given q.answer q.image → r ≡ Err w → IsErrAnd b (λ y. y ≡ w) → b ≡ started_from t q
  read_refused e was h =
      let z : accepted q.answer ≡ false = came_back refl (given_refused q.answer q.image e was) in
      handed_none q.answer q.image after.machine e was h ∙ ap (λ (x : Answer). given x after.machine) (sym (rw (z, and_then)))

  pub read_started : {r : Result Image Refusal} {g : Image} {b : Result Machine Refusal} → r ≡ given q.answer q.image → r ≡ Ok g → b ≡ given (start_from g t).answer (start_from g t).machine → b ≡ started_from t q
  read_started e was p =
      let z = given_taken q.answer q.image e was in
      let y : accepted q.answer ≡ true = z.0 in
      p ∙ ap (λ (g : Image). given (start_from g t).answer (start_from g t).machine) z.1 ∙ ap (λ (x : Answer). given x after.machine) (sym (rw (y, and_then)))

-- Two results that a public call's contract allows, as the source has it, are equal. Assumes nothing.
use Prim.Native.Nat.{ℕ}
use mathlib.Core.Path.{◌≡◌, sym, ◌∙◌}
use contract.Lifetimes.{Lfts}
use Rattle.std.specs.Prelude.{Result}
use Rattle.answer.specs.declared.Refusal.{Refusal}
use Rattle.image.specs.declared.Image.{Image}
use Rattle.machine.specs.declared.Machine.{Machine}
use Rattle.machine.proofs.start.start_from.Reads as start_from_lem
use Rattle.machine.proofs.Machine.fresh.Reads as fresh

pub start_from_one :
    (κs : Lfts 0) (g : Image) (t : ℕ) (r r' : Result Machine Refusal) → start_from_lem.Post κs (g, (t, tt)) r (g, (t, tt)) → start_from_lem.Post κs (g, (t, tt)) r' (g, (t, tt)) → r ≡ r'
start_from_one κs g t r r' p q = p ∙ sym q

pub fresh_one :
    (κs : Lfts 0) (n t : ℕ) (r r' : Result Machine Refusal) → fresh.Post κs (n, (t, tt)) r (n, (t, tt)) → fresh.Post κs (n, (t, tt)) r' (n, (t, tt)) → r ≡ r'
fresh_one κs n t r r' p q = p ∙ sym q

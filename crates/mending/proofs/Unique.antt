-- Two results that the mender's contract allows, as the source has it, are equal, and so is every byte of both lent buffers; a refused call
-- writes nothing.
use Prim.Native.Nat.{ℕ}
use mathlib.Core.Path.{◌≡◌, refl, sym, ◌∙◌}
use mathlib.Core.Bool.{false}
use mathlib.Core.List.{List}
use contract.Lifetimes.{Lfts}
use denote.MutBor.{MutBor}
use denote.Ref.{Bor}
use lib.ListN.{length}
use Rattle.std.specs.Prelude.{Result, Err}
use Rattle.answer.specs.declared.Refusal.{Refusal}
use Rattle.answer.specs.Answers.{accepted}
use Rattle.answer.proofs.Results.{came_back, given_refused}
use Rattle.mending.specs.Bytes.{mend_answer, mend_count, mend_written, list_written}
use Rattle.mending.proofs.mend_image.Reads as mend

pub mend_one :
    (κs : Lfts 3) (s : Bor (List ℕ)) (b z z' l y y' : MutBor (List ℕ)) (r r' : Result ℕ Refusal) →
    mend.Post κs (s, (b, (l, tt))) r (s, (z, (y, tt))) → mend.Post κs (s, (b, (l, tt))) r' (s, (z', (y', tt))) → (r ≡ r') × ((z.now ≡ z'.now) × (y.now ≡ y'.now))
mend_one κs s b z z' l y y' r r' p q = (p.0 ∙ sym q.0, (p.1.0 ∙ sym q.1.0, p.1.1 ∙ sym q.1.1))

pub refused_same :
    (κs : Lfts 3) (s : Bor (List ℕ)) (b z l y : MutBor (List ℕ)) (w : Refusal) →
    mend.Post κs (s, (b, (l, tt))) (Err w) (s, (z, (y, tt))) → (z.now ≡ b.now) × (y.now ≡ l.now)
unfolding mend_written list_written
refused_same κs s b z l y w p =
    let a = mend_answer s.now (length b.now) (length l.now) in
    let e : accepted a ≡ false = came_back refl (given_refused a (mend_count s.now (length b.now) (length l.now)) p.0 refl) in
    (p.1.0 ∙ rw e, p.1.1 ∙ rw e)

-- The mender's call, from its contract as the source has it: two results are equal, with every byte of both lent buffers; a refused call leaves them as they
-- were; where it is taken the value is the number of changed nodes.
use Prim.Native.Nat.{ℕ, ◌/◌}
use mathlib.Core.Path.{◌≡◌, refl, sym, ap, ◌∙◌}
use mathlib.Core.Bool.{true, false}
use mathlib.Core.List.{List}
use contract.Lifetimes.{Lfts}
use denote.MutBor.{MutBor}
use denote.Ref.{Bor}
use lib.ListN.{length}
use Rattle.answer.specs.Answers.{told, accepted}
use Rattle.mending.specs.Bytes.{mend_changed, mend_answer, mend_count, mend_written, list_written}
use Rattle.calls.specs.Mend.{mend_given}
use Rattle.calls.proofs.Apart as apart
use Rattle.library.proofs.Refused.{Refused, not_taken}
use Rattle.library.proofs.mend.uq_mend.Reads as mend

pub mend_one :
    (κs : Lfts 3) (s : Bor (List ℕ)) (b z z' l y y' : MutBor (List ℕ)) (r r' : ℕ) →
    mend.Post κs (s, (b, (l, tt))) r (s, (z, (y, tt))) → mend.Post κs (s, (b, (l, tt))) r' (s, (z', (y', tt))) → (r ≡ r') × ((z.now ≡ z'.now) × (y.now ≡ y'.now))
mend_one κs s b z z' l y y' r r' p q = (p.0 ∙ sym q.0, (p.1.0 ∙ sym q.1.0, p.1.1 ∙ sym q.1.1))

pub mend_refused :
    (κs : Lfts 3) (s : Bor (List ℕ)) (b z l y : MutBor (List ℕ)) (r : ℕ) →
    mend.Post κs (s, (b, (l, tt))) r (s, (z, (y, tt))) → Refused r → (z.now ≡ b.now) × (y.now ≡ l.now)
unfolding mend_written list_written
mend_refused κs s b z l y r p n =
    let e = not_taken (mend_answer s.now (length b.now) (length l.now)) _ r p.0 n in
    (p.1.0 ∙ rw e, p.1.1 ∙ rw e)

-- uq_value gives the number of changed nodes
pub mend_value : (s : List ℕ) (room listed : ℕ) → accepted (mend_answer s room listed) ≡ true → mend_given s room listed / 256 ≡ mend_changed s
unfolding mend_count
mend_value s room listed h = apart.value_back (told (mend_answer s room listed)) (mend_count s room listed) h ∙ rw h

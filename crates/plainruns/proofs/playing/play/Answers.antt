use Prim.Native.Nat.{ℕ, zero, suc, ◌+◌, ◌≤◌}
use mathlib.Core.Path.{◌≡◌, refl}
use mathlib.Core.Logic.{◌≢◌}
use native.Mathlib.Omega.{arith}
use lib.ListN.{get_or-eq_default}
use Rattle.machine.specs.Event.{deeds, deed_of, unknown, crashes}
use Rattle.plainruns.proofs.playing.play.Goals as goal

-- no crash, and no known kind: nothing is done
none : (k : ℕ) → (k ≡ 1 → ⊥) → (k ≡ 2 → ⊥) → (k ≡ 3 → ⊥) → (k ≡ 4 → ⊥) → deed_of k ≢ crashes → deed_of k ≡ unknown
none zero a b d e ne = refl
none (suc zero) a b d e ne = absurd (a refl)
none (suc (suc zero)) a b d e ne = absurd (b refl)
none (suc (suc (suc zero))) a b d e ne = absurd (d refl)
none (suc (suc (suc (suc zero)))) a b d e ne = absurd (e refl)
none (suc (suc (suc (suc (suc zero))))) a b d e ne = absurd (ne refl)
none (suc (suc (suc (suc (suc (suc k)))))) a b d e ne = let h : 6 ≤ suc (suc (suc (suc (suc (suc k))))) = omega arith in get_or-eq_default deeds unknown h

pub begin-requires : goal.begin-requires
begin-requires c = c.requires.enqueue c.in-1.is

pub begin-requires-in-2 : goal.begin-requires-in-2
begin-requires-in-2 c = c.requires.dequeue c.in-2.is

pub moved-requires : goal.moved-requires
moved-requires c = c.requires.step c.in-3.is

pub written_back-requires : goal.written_back-requires
written_back-requires c = (c.requires.small, c.requires.line c.in-4.is)

pub returns-in-1 : goal.returns-in-1
returns-in-1 c = rw c.in-1.is c.begin.ensures

pub returns-in-2 : goal.returns-in-2
returns-in-2 c = rw c.in-2.is c.begin-in-2.ensures

pub returns-in-3 : goal.returns-in-3
returns-in-3 c = rw c.in-3.is c.moved.ensures

pub returns-in-4 : goal.returns-in-4
returns-in-4 c = rw c.in-4.is c.written_back.ensures

pub returns-in_default : goal.returns-in_default
returns-in_default c = rw (none c.args.e.kind (λ k. omega arith) (λ k. omega arith) (λ k. omega arith) (λ k. omega arith) c.requires.free)

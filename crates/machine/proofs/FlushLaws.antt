-- Laws of flushes: what stands in the record before the first, and that sets of threads hold threads only. Assumes nothing.
use Prim.Native.Nat.{ℕ, ◌<◌, ◌^◌}
use mathlib.Core.Path.{◌≡◌}
use mathlib.Core.Bool.{true}
use native.Mathlib.Omega.{arith}
use native.Mathlib.Decide.{dec_lt}
use lib.ListN.{get_or, replicate, get_or-eq_default, get_or-replicate, length-replicate}
use Rattle.lists.proofs.WordLaws.{word_of_lt, has_word_of}
use Rattle.lists.specs.Word.{has}
use Rattle.image.specs.declared.Image.{Image}
use Rattle.image.specs.Layout.{no_content}
use Rattle.machine.specs.Record.{flushed, late, no_flushed, no_sets}
use Rattle.machine.specs.Line.{Line, over_at, everyone}
use Rattle.machine.specs.declared.Line.TheVariants.{OfHead as of_head, OfNode as of_node}
use Rattle.machine.specs.Start.{start_with, start_of}
use Rattle.machine.specs.declared.Machine.{Machine}

-- a table of one value has it at every place, beyond its end too
pub same_at : {A : Type 0} (c : ℕ) (x : A) (i : ℕ) → get_or (replicate c x) i x ≡ x
same_at c x i = by (dec_lt i c)
  where
    by : Dec (i < c) → get_or (replicate c x) i x ≡ x
    by (yes h) = get_or-replicate c i x x h
    by (no h) = get_or-eq_default (replicate c x) x {n = i} (omega (arith, length-replicate c x))

pub none_set : (c i : ℕ) → get_or (no_sets c) i 0 ≡ 0
unfolding no_sets
none_set c i = same_at c 0 i

pub none_flushed : (k : ℕ) → get_or no_flushed k no_content ≡ no_content
unfolding no_flushed
none_flushed k = same_at 8 no_content k

-- ---- at a start no thread has flushed

module _ (g : Image) (t : ℕ) where
  pub start_flushed : (k : ℕ) → flushed (start_of g t) k ≡ no_content
  unfolding start_with
  start_flushed k = none_flushed k

  pub start_late : (k : ℕ) → late (start_of g t) k ≡ 0
  unfolding start_with
  start_late k = none_set 8 k

  pub start_over : (l : Line) → over_at (start_of g t) l ≡ 0
  unfolding start_with
  start_over (of_head k) = none_set 8 k
  start_over (of_node i) = none_set 64 i

-- ---- everyone: all threads that there are, and no other

pub everyone_in : (m : Machine) (u : ℕ) → u < m.t → has (everyone m) u ≡ true
everyone_in m u h = has_word_of (λ u. true) m.t u h

pub everyone_fits : (m : Machine) → everyone m < 2 ^ m.t
everyone_fits m = word_of_lt (λ u. true) m.t

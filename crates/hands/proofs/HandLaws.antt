-- Laws that the proofs of this crate's functions use.
use Prim.Native.Nat.{ℕ, zero, suc, ◌+◌, ◌^◌, ◌≤◌, ◌<◌}
use mathlib.Core.Path.{◌≡◌, refl, sym, ap, ap₂, ◌∙◌}
use native.Mathlib.Omega.{arith}
use native.Mathlib.Numerals.{add-one}
use Rattle.lists.specs.Find.{pick}
use Rattle.lists.specs.Word.{with, without, word_of}
use Rattle.lists.proofs.WordLaws as words
use Rattle.machine.specs.Record.{node, head_at, content_of, with_waits, put_node, put_free, put_kept, put_kept_head}
use Rattle.machine.specs.Line.{persist, everyone}
use Rattle.machine.specs.declared.Line.{Line}
use Rattle.machine.specs.declared.Line.TheVariants.{OfHead as of_head, OfNode as of_node}
use Rattle.machine.specs.Retire.{others, last_wait, released_at, released}
use Rattle.machine.specs.declared.Machine.{Machine}
use Rattle.image.specs.Form.{head_lines}
use Rattle.image.specs.declared.Shape.{Shape}
use Rattle.machine.proofs.LineLaws.{LineIn}
use Rattle.hands.specs.Others.{is_other, joined, others_below}
use Rattle.hands.specs.Places.{HasPlace}

-- a number above all those in the set
pub with_new : (w i : ℕ) → w < 2 ^ i → with w i ≡ w + 2 ^ i
unfolding with
with_new w i h = rw (words.has_beyond i w i h (omega arith))

-- ---- the other threads

pub below_is : (m : Machine) (k n : ℕ) → others_below m k n ≡ word_of (λ u. is_other m k u) n
unfolding others_below word_of
below_is m k zero = refl
below_is m k (suc n) = ap (λ (w : ℕ). joined m k n w) (below_is m k n)

pub others_is : (m : Machine) (k : ℕ) → others m k ≡ others_below m k m.t
unfolding others
others_is m k = sym (below_is m k m.t)

pub below_lt : (m : Machine) (k n : ℕ) → others_below m k n < 2 ^ n
below_lt m k n = rw (below_is m k n) (words.word_of_lt (λ u. is_other m k u) n)

-- ---- one node more no longer waits: its waits and the free set are put in place

pub released_next : (m r : Machine) (k i : ℕ) → r ≡ released m k i → (w f : ℕ) → w ≡ without (node r i).waits k
    → f ≡ pick (last_wait (node r i).waits k) (with r.free i) r.free
    → put_free (put_node r i (with_waits (node r i) w)) f ≡ released m k (i + 1)
unfolding released released_at
released_next m r k i e w f rest free =
    ap₂ (λ (x y : ℕ). put_free (put_node r i (with_waits (node r i) x)) y) rest free
    ∙ ap (λ (x : Machine). released_at x k i) e
    ∙ ap (released m k) (sym (add-one i))

-- ---- a line, known to be a head line or a node's

pub persist_head : (m : Machine) (l : Line) (k w : ℕ) → l ≡ of_head k → w ≡ everyone m → put_kept_head m k (head_at m k) w ≡ persist m l
persist_head m l k w e f = ap (put_kept_head m k (head_at m k)) f ∙ sym (ap (persist m) e)

pub persist_node : (m : Machine) (l : Line) (i w : ℕ) → l ≡ of_node i → w ≡ everyone m → put_kept m i (content_of (node m i)) w ≡ persist m l
persist_node m l i w e f = ap (put_kept m i (content_of (node m i))) f ∙ sym (ap (persist m) e)

pub place_head : (l : Line) (k : ℕ) → l ≡ of_head k → HasPlace l → k < 8
place_head l k e h = rw e at h

pub place_node : (l : Line) (i : ℕ) → l ≡ of_node i → HasPlace l → i < 64
place_node l i e h = rw e at h

-- every line that there is
pub place_in : (z : Shape) (l : Line) → z.n ≤ 64 → head_lines z ≤ 8 → LineIn z l → HasPlace l
place_in z (of_head k) h g i = omega arith
place_in z (of_node i) h g j = omega arith

-- What `next_free` means, in the words of request 106; what A1 and a start leave as the node last handed out.
use Prim.Native.Nat.{ℕ, suc, ◌+◌, ◌-◌, ◌^◌, ◌≤◌, ◌<◌}
use mathlib.Core.Path.{◌≡◌, refl, sym, ◌∙◌}
use mathlib.Core.Bool.{Bool, true, false}
use mathlib.Core.Logic.{◌≢◌}
use native.Mathlib.Omega.{arith}
use native.Mathlib.Nat.{pos_of_ne-zero}
use native.Mathlib.Decide.{dec_lt}
use borrow.Author.Tests.{ltb-true, ltb-false, lt-ltb, le-ltb, ne_eqb}
use lib.Dec.{eqb, ltb}
use Rattle.lists.specs.Find.{pick, least, around}
use Rattle.lists.specs.Word.{has, without}
use Rattle.lists.proofs.BoolLaws.{no_way}
use Rattle.lists.proofs.FindLaws.{least_ge, least_before, around_lt, around_found}
use Rattle.lists.proofs.WordLaws.{least_lt}
use Rattle.image.specs.declared.Image.{Image}
use Rattle.image.specs.Recovered.{dummy_of}
use Rattle.machine.specs.Stage.{A1}
use Rattle.machine.specs.Start.{start_with, start_of}
use Rattle.machine.specs.Retire.{next_free}
use Rattle.machine.specs.Event.{stepped}
use Rattle.machine.specs.declared.Machine.{Machine}

-- ---- "the first free node after the one last handed out, going round past the end"

-- how many numbers ahead of a number b comes, going round past the end of n numbers: a itself comes last
abbrev pub ahead : ℕ → ℕ → ℕ → ℕ
ahead n a b = pick (ltb a b) (b - a) (b + n - a)

-- the search does not go past a number that the test holds of
upto : (f : ℕ → Bool) (k s j : ℕ) → s ≤ j → f j ≡ true → least f k s ≤ j
upto f k s j a e = by (dec_lt j (least f k s))
  where
    by : Dec (j < least f k s) → least f k s ≤ j
    by (no h) = omega arith
    by (yes h) = no_way (sym e ∙ least_before f k s j a h)

around_first : (f : ℕ → Bool) (n i j : ℕ) → i < n → j < n → f j ≡ true → ahead n i (around f n i) ≤ ahead n i j
unfolding around
around_first f n i j a b e = by (ltb q n) refl (dec_lt i j)
  where
    q : ℕ
    q = least f (n - suc i) (suc i)

    l : ℕ
    l = least f n 0

    by : (t : Bool) → ltb q n ≡ t → Dec (i < j) → ahead n i (pick t q l) ≤ ahead n i j
    by true t (yes h) =
        let g = least_ge f (n - suc i) (suc i) in
        let u = upto f (n - suc i) (suc i) j (omega arith) e in
        rw (lt-ltb i q (omega arith), lt-ltb i j h) (omega (arith, g, u))
    by true t (no h) =
        let g = least_ge f (n - suc i) (suc i) in
        rw (lt-ltb i q (omega arith), le-ltb i j (omega arith)) (omega (arith, g, ltb-true q n t))
    by false t (yes h) = absurd (omega (arith, ltb-false q n t, upto f (n - suc i) (suc i) j (omega arith) e))
    by false t (no h) =
        let u = upto f n 0 j (omega arith) e in
        rw (le-ltb i l (omega arith), le-ltb i j (omega arith)) (omega (arith, u))

-- no free node comes before it
pub next_first : (m : Machine) (x : ℕ) → m.last < m.n → x < m.n → has m.free x ≡ true → ahead m.n m.last (next_free m) ≤ ahead m.n m.last x
unfolding next_free
next_first m x a b e = around_first (has m.free) m.n m.last x a b e

-- it is a node, and it is free, where any is; a set without a node of the machine is what 18 turns away
pub next_in : (m : Machine) → m.free ≢ 0 → m.free < 2 ^ m.n → next_free m < m.n
unfolding next_free
next_in m d f = around_lt (has m.free) m.n m.last (least_lt m.n m.free (pos_of_ne-zero d) f)

pub next_is_free : (m : Machine) → m.free ≢ 0 → m.free < 2 ^ m.n → has m.free (next_free m) ≡ true
unfolding next_free
next_is_free m d f = around_found (has m.free) m.n m.last (least_lt m.n m.free (pos_of_ne-zero d) f)

-- ---- what is then the node last handed out

pub hands_last : (m : Machine) (k : ℕ) → m.free ≢ 0 → (stepped m k A1).machine.last ≡ next_free m
hands_last m k d = rw (ne_eqb m.free 0 d)

-- "After a start the dummy counts as last handed out"
pub start_last : (g : Image) (t : ℕ) → (start_of g t).last ≡ dummy_of g
unfolding start_with
start_last g t = refl

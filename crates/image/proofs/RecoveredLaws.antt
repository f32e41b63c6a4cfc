-- The tests that the searches over an image's nodes run along, each under a name. Assumes nothing.
use Prim.Native.Nat.{ℕ}
use mathlib.Core.Path.{◌≡◌, refl}
use mathlib.Core.Bool.{Bool, not}
use lib.Dec.{eqb, ltb}
use Rattle.lists.specs.Find.{least}
use Rattle.answer.specs.Answers.{check, Taken, Linked, Twin, NoDummy}
use Rattle.image.specs.Layout.{content_at}
use Rattle.image.specs.Recovered.{recovered_at, first_unclear, first_twin, dummy_of}
use Rattle.image.specs.Refusals.{startable, sound}
use Rattle.image.specs.declared.Image.{Image}

-- node i's linked byte is above 1
unfoldable pub unclear : Image → ℕ → Bool
unclear g i = ltb 1 (content_at g.nodes i).linked

-- node i is not recovered
unfoldable pub unrecovered : Image → ℕ → Bool
unrecovered g i = not (recovered_at g i)

pub unclear_is : (g : Image) → first_unclear g ≡ least (unclear g) g.n 0
unfolding first_unclear unclear
unclear_is g = refl

pub unrecovered_is : (g : Image) → dummy_of g ≡ least (unrecovered g) g.n 0
unfolding dummy_of unrecovered
unrecovered_is g = refl

-- 7 and 8, by the numbers that the searches find
pub startable_by : (g : Image) (n t d : ℕ) → n ≡ g.n → t ≡ first_twin g → d ≡ dummy_of g
    → check (ltb t n) (Twin t) (check (eqb d n) NoDummy Taken) ≡ startable g Taken
unfolding startable
startable_by g n t d e q r = rw (e, q, r)

-- the same of 6, 7 and 8 together
pub sound_by : (g : Image) (n u t d : ℕ) → n ≡ g.n → u ≡ first_unclear g → t ≡ first_twin g → d ≡ dummy_of g
    → check (ltb u n) (Linked u) (check (ltb t n) (Twin t) (check (eqb d n) NoDummy Taken)) ≡ sound g Taken
unfolding sound startable
sound_by g n u t d e p q r = rw (e, p, q, r)

-- When each operation took effect: a list of effects, newest first, and what makes it sound.
use mathlib.Core.Path.{◌≡◌}
use mathlib.Core.Bool.{Bool, true}
use mathlib.Core.List.{List, [], ◌∷◌}
use mathlib.Core.Logic.{◌≢◌, ◌⊎◌}
use Prim.Native.Nat.{ℕ, suc, ◌≤◌, ◌<◌}
use Rattle.model.specs.Core.{Ans, nothing, done, full, worn, empty, item}
use Rattle.model.specs.Lawful.{Op, putting, taking}

-- what took effect: a node was linked at place p, Head came to place p, Head was seen at p with nothing behind, a refusal
pub data What : Type 0 where
  put get saw : (p : ℕ) → What
  nay : What

-- by which operation, at which event
pub record Lin : Type 0 where
  pub by : ℕ
  pub at : ℕ
  pub what : What

-- the list has the newest first
abbrev pub has_l : Lin → List Lin → Type 0
has_l d [] = ⊥
has_l d (e ∷ l) = (d ≡ e) ⊎ has_l d l

abbrev pub Fresh : ℕ → List Lin → Type 0
Fresh o l = (e : Lin) → has_l e l → e.by ≢ o

abbrev pub Falling : List Lin → Type 0
Falling [] = Unit {0}
Falling (e ∷ l) = ((d : Lin) → has_l d l → d.at ≤ e.at) × Falling l

abbrev pub NoTwo : List Lin → Type 0
NoTwo [] = Unit {0}
NoTwo (e ∷ l) = Fresh e.by l × NoTwo l

-- the effects lead from a log of first places, with Head at 0, to one of len places with Head at hp
abbrev pub Effect : What → (hp len : ℕ) → (ℕ → ℕ → Type 0) → Type 0
Effect (put p) hp len rest = (len ≡ suc p) × (hp < p) × rest hp p
Effect (get p) hp len rest = (h : ℕ) × (hp ≡ suc h) × (p ≡ hp) × (hp < len) × rest h len
Effect (saw p) hp len rest = (p ≡ hp) × (len ≡ suc hp) × rest hp len
Effect nay hp len rest = rest hp len

abbrev pub Sound : ℕ → List Lin → ℕ → ℕ → Type 0
Sound first [] hp len = (hp ≡ 0) × (len ≡ first)
Sound first (e ∷ l) hp len = Effect e.what hp len (Sound first l)

abbrev pub Okay : Ans → Ans → Type 0 → Type 0
Okay s a X = (s ≡ nothing) ⊎ ((s ≡ a) × X)

-- the operation x fits its effect
abbrev pub Fits : Op → (len pp : ℕ) (it : ℕ → ℕ) (safe : ℕ → Bool) → What → Type 0
Fits x len pp it safe (put p) = (p < len) × (x.call ≡ putting (it p)) × Okay x.said done (safe p ≡ true)
Fits x len pp it safe (get p) = (p < len) × (x.call ≡ taking) × Okay x.said (item (it p)) (p ≤ pp)
Fits x len pp it safe (saw p) = (p < len) × (x.call ≡ taking) × Okay x.said empty (p ≤ pp)
Fits x len pp it safe nay = (v : ℕ) × (x.call ≡ putting v) × ((x.said ≡ full) ⊎ (x.said ≡ worn))

-- No repeats: two places that have one element are one place.
use Rattle.std.specs.Prelude.{ℕ, ◌<◌, ◌≡◌, List, length, get_or}

abbrev pub Distinct : {A : Type 0} → A → List A → Type 0
Distinct d l = (i j : ℕ) → i < length l → j < length l → get_or l i d ≡ get_or l j d → i ≡ j

-- What `==` says of two contents is the definition of equal contents.
use mathlib.Core.Path.{◌≡◌, refl}
use mathlib.Core.Bool.{Bool, true, false, ◌&&◌}
use lib.Dec.{eqb}
use Rattle.lists.specs.Find.{both}
use Rattle.image.specs.declared.Content.{Content}
use Rattle.image.specs.Layout.{same_content}

in_turn : (x y z : Bool) → (x && (y && z)) ≡ both z (both x y)
in_turn true true true = refl
in_turn true true false = refl
in_turn true false true = refl
in_turn true false false = refl
in_turn false y true = refl
in_turn false y false = refl

-- field by field, in the order in which the struct has them
pub equal_is : (a b : Content) → (eqb a.index b.index && (eqb a.item b.item && eqb a.linked b.linked)) ≡ same_content a b
unfolding same_content
equal_is a b = in_turn (eqb a.index b.index) (eqb a.item b.item) (eqb a.linked b.linked)

use Prim.Native.Nat.{ℕ}
use mathlib.Core.Path.{◌≡◌, refl, sym, ap, ◌∙◌}
use mathlib.Core.Bool.{Bool, true, false}
use lib.Dec.{eqb}
use Rattle.lists.specs.Find.{both}
use Rattle.machine.specs.Record.{kept}
use Rattle.image.specs.declared.Content.{Content}
use Rattle.image.specs.Layout.{same_content}
use Rattle.image.proofs.EqualLaws.{equal_is}
use Rattle.machine.specs.Line.{head_content}
use Rattle.machine.specs.Event.{clean}
use Rattle.hands.proofs.HandLaws as laws
use Rattle.events.proofs.clean.is_clean.Goals as goal

-- of a head line the index alone is a content
heads-same : (a b : ℕ) → eqb a b ≡ same_content (head_content a) (head_content b)
unfolding same_content
heads-same a b = by (eqb a b)
  where
    by : (x : Bool) → x ≡ both true (both x true)
    by true = refl
    by false = refl

pub bounds-m-h : goal.bounds-m-h
bounds-m-h c = laws.place_head _ _ c.in-OfHead.is c.requires

pub bounds-m-h-in-OfHead : goal.bounds-m-h-in-OfHead
bounds-m-h-in-OfHead c = laws.place_head _ _ c.in-OfHead.is c.requires

pub bounds-m-i : goal.bounds-m-i
bounds-m-i c = laws.place_node _ _ c.in-OfNode.is c.requires

pub bounds-m-i-in-OfNode : goal.bounds-m-i-in-OfNode
bounds-m-i-in-OfNode c = laws.place_node _ _ c.in-OfNode.is c.requires

pub returns-in-OfHead : goal.returns-in-OfHead
returns-in-OfHead c = heads-same _ _ ∙ sym (ap (clean c.args.m) c.in-OfHead.is)

pub returns-in-OfNode : goal.returns-in-OfNode
returns-in-OfNode c = c.eq.ensures ∙ equal_is c.from.result (kept c.args.m c.in-OfNode.x) ∙ ap (λ (v : Content). same_content v (kept c.args.m c.in-OfNode.x)) c.from.ensures ∙ sym (ap (clean c.args.m) c.in-OfNode.is)

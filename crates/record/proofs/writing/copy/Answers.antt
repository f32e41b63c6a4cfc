use Prim.Native.Nat.{ℕ, ◌+◌, ◌-◌, ◌≤◌}
use mathlib.Core.List.{List, ◌++◌, append_assoc}
use mathlib.Core.Path.{◌≡◌, sym, ap, ◌∙◌}
use native.Mathlib.Omega.{arith}
use lib.ListN.{length, take, drop}
use lib.Seq.{drop-drop}
use borrow.Rule.Slice.PartMut.{put_mid}
use Rattle.lists.specs.Tab.{over}
use Rattle.lists.proofs.TabLaws.{over_is}
use Rattle.record.proofs.writing.copy.Goals as goal

-- a part that is copied is written over what was there
copied : (b a : List ℕ) (at : ℕ) → at + length a ≤ length b → put_mid at (length a) b a ≡ over b at a
copied b a at h =
    ap (λ (r : List ℕ). take at b ++ (a ++ r)) (drop-drop (length a) at b) ∙ sym (append_assoc (take at b) a (drop (at + length a) b)) ∙ sym (over_is b at a h)

pub returns : goal.returns
returns c =
    let b = c.args.b.now in
    let a = c.args.a.now in
    let k : c.args.at + length a - c.args.at ≡ length a = omega arith in
    ap (put_mid c.args.at (c.args.at + length a - c.args.at) b) c.copy_from_slice.ensures.after ∙ ap (λ (n : ℕ). put_mid c.args.at n b a) k ∙ copied b a c.args.at c.requires

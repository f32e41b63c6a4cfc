use Rattle.image.specs.Layout.{form_in}
use Rattle.codec.proofs.bytes.form_in.Goals as goal

pub returns-then-is_marked : goal.returns-then-is_marked
unfolding form_in
returns-then-is_marked c = rw (← c.is_marked.ensures, c.if-is_marked.true)

pub returns-then-is_marked-2 : goal.returns-then-is_marked-2
unfolding form_in
returns-then-is_marked-2 c = rw (← c.is_marked.ensures, c.if-is_marked.false, ← c.is_marked-2.ensures, c.if-is_marked-2.true)

pub returns-then-is_marked-3 : goal.returns-then-is_marked-3
unfolding form_in
returns-then-is_marked-3 c = rw (← c.is_marked.ensures, c.if-is_marked.false, ← c.is_marked-2.ensures, c.if-is_marked-2.false, ← c.is_marked-3.ensures, c.if-is_marked-3.true)

pub returns : goal.returns
unfolding form_in
returns c = rw (← c.is_marked.ensures, c.if-is_marked.false, ← c.is_marked-2.ensures, c.if-is_marked-2.false, ← c.is_marked-3.ensures, c.if-is_marked-3.false)

use Rattle.wordwriter.proofs.EntryLaws as entries
use native.Mathlib.Omega.{arith}
use mathlib.Core.Path.{ap, ◌∙◌}
use Prim.Native.Nat.{◌+◌, ◌-◌, ◌<◌}
use Rattle.image.specs.Layout.{content_at, head_in}
use Rattle.image.specs.Form.{known}
use Rattle.wordwriter.proofs.entries.put_entry.Goals as goal

pub returns-then-k-eq0 : goal.returns-then-k-eq0
returns-then-k-eq0 c =
    let p = c.requires in
    let s = c.args.s.now in
    let n = entries.nodes_is s c.args.d p.1 in record { put = rw (entries.entry_nodes s c.args.k c.args.d.image.n n c.if-k-eq0.true) (c.put_nodes.ensures.put); room = (c.put_nodes.ensures.room) }

pub returns-then-k-eq1 : goal.returns-then-k-eq1
returns-then-k-eq1 c =
    let p = c.requires in
    let s = c.args.s.now in
    let n = entries.nodes_is s c.args.d p.1 in record { put = rw (entries.entry_threads s c.args.k c.args.d.image.form c.args.d.t (entries.form_is s c.args.d p.1) (entries.threads_is s c.args.d p.1) c.if-k-eq1.true) (c.put_threads.ensures.put); room = (c.put_threads.ensures.room) }

pub overflow_add-h : goal.overflow_add-h
overflow_add-h c =
    let p = c.requires in
    let s = c.args.s.now in
    let n = entries.nodes_is s c.args.d p.1 in
    let l = entries.lines_is s c.args.d p.1 c.head_lines-h.result c.head_lines-h.ensures in
    omega (arith, l, entries.lines_few s p.0)

pub overflow_sub-k : goal.overflow_sub-k
overflow_sub-k c = omega (arith, c.if-k-eq0.false, c.if-k-eq1.false)

pub put_heads-requires : goal.put_heads-requires
put_heads-requires c =
    let p = c.requires in
    let s = c.args.s.now in
    let n = entries.nodes_is s c.args.d p.1 in
    let l = entries.lines_is s c.args.d p.1 c.head_lines-h.result c.head_lines-h.ensures in
    (omega (arith, l, entries.lines_few s p.0, c.if-k-eq0.false, c.if-k-eq1.false, c.if-k-h.true), omega (arith, p.3))

pub returns-then-k-h : goal.returns-then-k-h
returns-then-k-h c =
    let p = c.requires in
    let s = c.args.s.now in
    let n = entries.nodes_is s c.args.d p.1 in
    let l = entries.lines_is s c.args.d p.1 c.head_lines-h.result c.head_lines-h.ensures in
    let h = entries.head_is s c.args.d p.1 p.0 (c.args.k - 2) (omega (arith, l, c.if-k-eq0.false, c.if-k-eq1.false, c.if-k-h.true)) in record {
      put = rw (entries.entry_head s c.args.k (2 + c.head_lines-h.result) (ap (λ z. 2 + z) l) c.if-k-eq0.false c.if-k-eq1.false
          c.args.d.image.form (head_in c.args.d.image (c.args.k - 2)) (entries.form_is s c.args.d p.1) h c.if-k-h.true) (c.put_heads.ensures.put);
      room = (c.put_heads.ensures.room);
    }

pub overflow_add-h-2 : goal.overflow_add-h-2
overflow_add-h-2 c =
    let p = c.requires in
    let s = c.args.s.now in
    let n = entries.nodes_is s c.args.d p.1 in
    let l = entries.lines_is s c.args.d p.1 c.head_lines-h.result c.head_lines-h.ensures in
    omega (arith, l, entries.lines_few s p.0)

pub bounds-g-i : goal.bounds-g-i
bounds-g-i c =
    let p = c.requires in
    let s = c.args.s.now in
    let n = entries.nodes_is s c.args.d p.1 in
    let l = entries.lines_is s c.args.d p.1 c.head_lines-h.result c.head_lines-h.ensures in
    omega (arith, n, entries.few s p.0, c.if-k-h.false, c.if-k-h-2.true)

pub put_node_entry-requires : goal.put_node_entry-requires
put_node_entry-requires c =
    let p = c.requires in
    let s = c.args.s.now in
    let n = entries.nodes_is s c.args.d p.1 in
    let l = entries.lines_is s c.args.d p.1 c.head_lines-h.result c.head_lines-h.ensures in
    (omega (arith, n, entries.few s p.0, c.if-k-h.false, c.if-k-h-2.true), omega (arith, p.3))

pub returns-then-k-h-2 : goal.returns-then-k-h-2
returns-then-k-h-2 c =
    let p = c.requires in
    let s = c.args.s.now in
    let n = entries.nodes_is s c.args.d p.1 in
    let l = entries.lines_is s c.args.d p.1 c.head_lines-h.result c.head_lines-h.ensures in
    let h = 2 + c.head_lines-h.result in
    let i : c.args.k - h < c.args.d.image.n = omega (arith, c.if-k-h.false, c.if-k-h-2.true) in record {
      put = rw (entries.entry_node s c.args.k h (ap (λ z. 2 + z) l) c.if-k-eq0.false c.if-k-eq1.false (content_at c.args.d.image.nodes (c.args.k - h))
          (entries.node_is s c.args.d p.1 p.0 (c.args.k - h) (omega (arith, n, i))) (omega (arith, c.if-k-h.false)) (omega (arith, n, c.if-k-h-2.true))) c.put_node_entry.ensures.put;
      room = c.put_node_entry.ensures.room;
    }

pub put_event_entry-requires : goal.put_event_entry-requires
put_event_entry-requires c =
    let p = c.requires in
    let s = c.args.s.now in
    let n = entries.nodes_is s c.args.d p.1 in
    let l = entries.lines_is s c.args.d p.1 c.head_lines-h.result c.head_lines-h.ensures in
    let z = entries.shape_is s c.args.d p.1 in
    let q = entries.count_is s c.args.d p.1 in
    let f = entries.form_is s c.args.d p.1 in
    (z, q, ap known f ∙ entries.form s p.0, omega (arith, q, entries.short s p.0), omega (arith, n, q, l, p.2, c.if-k-h.false, c.if-k-h-2.false), rw (z, q) (entries.events_fit s p.0), omega (arith, p.3))

pub returns : goal.returns
returns c =
    let p = c.requires in
    let s = c.args.s.now in
    let n = entries.nodes_is s c.args.d p.1 in
    let l = entries.lines_is s c.args.d p.1 c.head_lines-h.result c.head_lines-h.ensures in record { put = rw (entries.entry_event s c.args.k (2 + c.head_lines-h.result) (ap (λ z. 2 + z) l) c.if-k-eq0.false c.if-k-eq1.false c.args.d.image.n n (omega (arith, c.if-k-h-2.false))) (c.put_event_entry.ensures.put); room = (c.put_event_entry.ensures.room) }

-- Enqueue, step by step: A1 to A12 of thread k, and F10, the fence behind A10. i is the thread's own node, t the tail it read.
use Rattle.std.specs.Prelude.{ℕ, ◌+◌, eqb, leb}
use Rattle.lists.specs.Find.{pick}
use Rattle.answer.specs.Answers.{Done, Full, WornOut}
use Rattle.image.specs.Form.{top_of}
use Rattle.machine.specs.Record.{none, node, thread, own_node, read_tail, with_item, with_next, with_linked, with_index, put_node, put_tail}
use Rattle.machine.specs.Stage.{A2, A3, A4, A5, A6, A7, A8, A9, A10, A11, A12, F10, number}
use Rattle.machine.specs.Line.{of_node}
use Rattle.machine.specs.Flush.{flush, fence}
use Rattle.machine.specs.Retire.{moving, going, answering, storing, flushing, fencing, next_free, hand_out, freed}
use Rattle.machine.specs.declared.Machine.{Machine}
use Rattle.machine.specs.declared.Acted.{Acted}

-- A1 takes the next free node, which is then the one last handed out; if none is free the answer is Full
abbrev pub step_a1 : Machine → ℕ → Acted
step_a1 m k =
    pick (eqb m.free 0) (answering Full m k)
    (moving (hand_out m (next_free m)) k (own_node (thread m k) (next_free m)) (number A2))

-- A2 item stored
abbrev pub step_a2 : Machine → ℕ → Acted
step_a2 m k =
    let i = (thread m k).node in
    storing (of_node i) (going (put_node m i (with_item (node m i) (thread m k).item)) k (number A3))

-- A3 next set to none; a link is no part of a line's content
abbrev pub step_a3 : Machine → ℕ → Acted
step_a3 m k = let i = (thread m k).node in going (put_node m i (with_next (node m i) none)) k (number A4)

-- A4 linked set to 0
abbrev pub step_a4 : Machine → ℕ → Acted
step_a4 m k =
    let i = (thread m k).node in
    storing (of_node i) (going (put_node m i (with_linked (node m i) 0)) k (number A5))

-- A5 Tail read as t
abbrev pub step_a5 : Machine → ℕ → Acted
step_a5 m k = moving m k (read_tail (thread m k) m.tail) (number A6)

-- A6 next of t read: none goes to A7, else to A12
abbrev pub step_a6 : Machine → ℕ → Acted
step_a6 m k = let t = (thread m k).tail in going m k (pick (eqb (node m t).next none) (number A7) (number A12))

-- A7 index set to t's index + 1. If t's index is the largest of the form the node becomes free again, its index unchanged, and the answer is Worn out
abbrev pub step_a7 : Machine → ℕ → Acted
step_a7 m k =
    let i = (thread m k).node in
    let t = (thread m k).tail in
    pick (leb (top_of m.form) (node m t).index) (answering WornOut (freed m i) k)
    (storing (of_node i) (going (put_node m i (with_index (node m i) ((node m t).index + 1))) k (number A8)))

-- A8 if t's next is none it becomes the new node, go to A9; else to A12
abbrev pub step_a8 : Machine → ℕ → Acted
step_a8 m k =
    let i = (thread m k).node in
    let t = (thread m k).tail in
    pick (eqb (node m t).next none) (going (put_node m t (with_next (node m t) i)) k (number A9)) (going m k (number A12))

-- A9 linked set to 1
abbrev pub step_a9 : Machine → ℕ → Acted
step_a9 m k =
    let i = (thread m k).node in
    storing (of_node i) (going (put_node m i (with_linked (node m i) 1)) k (number A10))

-- A10 the node's line is persisted, #104: by "a flush step, then a fence step"
abbrev pub step_a10 : Machine → ℕ → Acted
step_a10 m k =
    let l = of_node (thread m k).node in
    flushing k l (going (flush m k l) k (number F10))

abbrev pub step_f10 : Machine → ℕ → Acted
step_f10 m k =
    let l = of_node (thread m k).node in
    fencing k l (going (fence m k l) k (number A11))

-- A11 Tail becomes the new node if it is still t. Answer Done
abbrev pub step_a11 : Machine → ℕ → Acted
step_a11 m k =
    answering Done (pick (eqb m.tail (thread m k).tail) (put_tail m (thread m k).node) m) k

-- A12 Tail becomes t's next if it is still t. Back to A5
abbrev pub step_a12 : Machine → ℕ → Acted
step_a12 m k =
    let t = (thread m k).tail in
    going (pick (eqb m.tail t) (put_tail m (node m t).next) m) k (number A5)

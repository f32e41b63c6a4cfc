-- Dequeue, step by step: D1 to D7 of thread k. h is the head read, x the next read. In #101 the thread has an index line, line k, and two steps more:
-- S3 in front of D3 and S6 in front of D6. F3 and F6 are the fences behind D3 and D6.
use Rattle.std.specs.Prelude.{ℕ, true, eqb}
use Rattle.lists.specs.Find.{pick, both}
use Rattle.answer.specs.Answers.{Item, Empty}
use Rattle.image.specs.Form.{per_desk}
use Rattle.machine.specs.Record.{none, node, head_at, thread, read_head, read_next, read_item, put_head, put_head_node, put_head_at}
use Rattle.machine.specs.Stage.{D1, D2, D3, D4, D5, D6, D7, S3, S6, F3, F6, number}
use Rattle.machine.specs.Line.{of_head, own_head}
use Rattle.machine.specs.Flush.{flush, fence}
use Rattle.machine.specs.Retire.{quiet, moving, going, answering, storing, flushing, fencing, left, retired_held}
use Rattle.machine.specs.declared.Machine.{Machine}
use Rattle.machine.specs.declared.Acted.{Acted}

-- D1 Head read, number and index; #101: "Head is a node number only"
abbrev pub step_d1 : Machine → ℕ → Acted
step_d1 m k = moving m k (read_head (thread m k) m.head (pick (per_desk m.form) 0 (head_at m 0))) (number D2)

-- D2 next of that node read: none goes to D3, else to D4
abbrev pub step_d2 : Machine → ℕ → Acted
step_d2 m k =
    let x = (node m (thread m k).head).next in
    moving m k (read_next (thread m k) x) (pick (eqb x none) (pick (per_desk m.form) (number S3) (number D3)) (number D4))

-- #101: "the thread stores .. in its line", the index of node x, and goes on to step s
abbrev pub stores_index : Machine → ℕ → ℕ → ℕ → Acted
stores_index m k x s = storing (of_head k) (going (put_head_at m k (node m x).index) k s)

-- S3 "In place of D3 it does so with the index of the node it found last"
abbrev pub step_s3 : Machine → ℕ → Acted
step_s3 m k = stores_index m k (thread m k).head (number D3)

-- D3 line 0, or the thread's own, persisted, #104: by "a flush step, then a fence step"
abbrev pub step_d3 : Machine → ℕ → Acted
step_d3 m k =
    let l = of_head (own_head m k) in
    flushing k l (going (flush m k l) k (number F3))

-- "D3 answers at the fence": Empty
abbrev pub step_f3 : Machine → ℕ → Acted
step_f3 m k =
    let l = of_head (own_head m k) in
    fencing k l (answering Empty (fence m k l) k)

-- D4 if Head is still the pair read, it becomes the next node as read at D2, with that node's index, go to D5; else to D1;
-- #101: the number alone is read, compared and stored, and no line is touched
abbrev pub step_d4 : Machine → ℕ → Acted
step_d4 m k =
    let x = (thread m k).next in
    pick (both (eqb m.head (thread m k).head) (pick (per_desk m.form) true (eqb (head_at m 0) (thread m k).index)))
    (pick (per_desk m.form) (going (put_head_node m x) k (number D5))
    (storing (of_head 0) (going (put_head m x (node m x).index) k (number D5))))
    (going m k (number D1))

-- D5 item of the next node read
abbrev pub step_d5 : Machine → ℕ → Acted
step_d5 m k =
    moving m k (read_item (thread m k) (node m (thread m k).next).item) (pick (per_desk m.form) (number S6) (number D6))

-- S6 "In place of D6 the thread stores the new dummy's index in its line"
abbrev pub step_s6 : Machine → ℕ → Acted
step_s6 m k = stores_index m k (thread m k).next (number D6)

-- D6 line 0 persisted; "then persists that line as a second step"; #104: a flush, then a fence
abbrev pub step_d6 : Machine → ℕ → Acted
step_d6 m k =
    let l = of_head (own_head m k) in
    flushing k l (going (flush m k l) k (number F6))

abbrev pub step_f6 : Machine → ℕ → Acted
step_f6 m k =
    let l = of_head (own_head m k) in
    fencing k l (going (fence m k l) k (number D7))

-- D7 the node this thread held from its previous successful dequeue, if any, is retired; the old dummy is now held. Answer the item
abbrev pub step_d7 : Machine → ℕ → Acted
step_d7 m k = quiet (Item (thread m k).item) (left (retired_held m k) k (thread m k).head)

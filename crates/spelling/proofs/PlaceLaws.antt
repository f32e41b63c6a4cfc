-- Where the parts of an image stand by the schedule's shape and by its own: the same, where both T agree. And how many head lines there are.
use Prim.Native.Nat.{ℕ, ◌+◌, ◌*◌, ◌≤◌}
use mathlib.Core.Path.{◌≡◌, ap}
use mathlib.Core.Bool.{true}
use mathlib.Core.List.{List}
use borrow.Author.Tests.{leb-true}
use lib.Dec.{leb}
use Rattle.lists.proofs.BoolLaws.{both_true}
use Rattle.image.specs.Form.{node_size, head_lines, header_size, node_place, image_size}
use Rattle.image.specs.Layout.{shape_in}
use Rattle.image.specs.Refusals.{threads_fit, agree}
use Rattle.image.proofs.HeadLaws as heads
use Rattle.image.proofs.ShapeLaws.{agree_is}
use Rattle.schedule.specs.Layout.{threads_in, nodes_in, image_part, schedule_shape}
use Rattle.spelling.specs.Writing.{image_form, heads_in}

module _ (s : List ℕ) (agrees : agree (threads_in s) (shape_in (image_part s)) ≡ true) where
  pub lines_same : head_lines (shape_in (image_part s)) ≡ head_lines (schedule_shape s)
  unfolding shape_in
  lines_same =
      let p = image_part s in
      heads.lines_same (image_form s) (nodes_in s) (shape_in p).t (nodes_in s) (threads_in s) (agree_is (threads_in s) (shape_in p) agrees)

  pub header_same : header_size (shape_in (image_part s)) ≡ header_size (schedule_shape s)
  unfolding shape_in header_size
  header_same = rw lines_same

  pub place_same : (i : ℕ) → node_place (shape_in (image_part s)) i ≡ node_place (schedule_shape s) i
  unfolding shape_in node_place
  place_same i = ap (λ h. h + i * node_size (image_form s)) header_same

  pub size_same : image_size (shape_in (image_part s)) ≡ node_place (schedule_shape s) (nodes_in s)
  unfolding shape_in image_size
  size_same = place_same (nodes_in s)

pub heads_few : (s : List ℕ) → threads_fit (threads_in s) ≡ true → heads_in s ≤ 8
heads_few s h = heads.lines_few (schedule_shape s) (leb-true (threads_in s) 8 (both_true (leb 1 (threads_in s)) (leb (threads_in s) 8) h).1)

pub heads_some : (s : List ℕ) → threads_fit (threads_in s) ≡ true → 1 ≤ heads_in s
heads_some s h = heads.lines_some (schedule_shape s) (leb-true 1 (threads_in s) (both_true (leb 1 (threads_in s)) (leb (threads_in s) 8) h).0)

-- Cases computed by the definitions: which nodes are changed, and why.
use Prim.Native.Nat.{ℕ}
use mathlib.Core.Path.{◌≡◌, refl}
use mathlib.Core.List.{List, [], ◌∷◌}
use Rattle.lists.specs.Find.{count, any, least}
use Rattle.lists.specs.Tab.{tab, joined, front}
use Rattle.answer.specs.Answers.{Taken, Mark}
use Rattle.image.specs.Bytes.{at_w}
use Rattle.image.specs.Form.{known, width_of, heads_at, node_size, head_lines, header_size, node_place, image_size, per_desk}
use Rattle.image.specs.Layout.{no_heads, heads_of, no_contents, marked, form_in, shape_in, mark_bytes, head_bytes, body_bytes, image_bytes, read_nodes, read_heads, image_in}
use Rattle.image.specs.Recovered.{largest, head_of, recovered, twins, has_twin, dummy_of}
use Rattle.codec.specs.Parts.{shape}
use Rattle.mending.specs.Mended.{cleared, unclear_at, bytes_mended, twins_mended, larger_at, largest_at, spare_at, spare_mended, mended, reason_at, is_changed, changed, changes}
use Rattle.mending.specs.Bytes.{mend_bytes, mend_list, mend_changed, mend_shape, mend_answer}

-- N 3, the nodes (1, 4), (1, 4), (2, 4): node 1 for 7, node 2 for 6, in node order
abbrev two_reasons : List ℕ
two_reasons = 85 ∷ 81 ∷ 73 ∷ 1 ∷ 0 ∷ 3 ∷ 0 ∷ 0 ∷ 0 ∷ 0 ∷ 1 ∷ 4 ∷ 0 ∷ 0 ∷ 0 ∷ 10 ∷ 0 ∷ 0 ∷ 0 ∷ 1 ∷ 4 ∷ 0 ∷ 0 ∷ 0 ∷ 11 ∷ 0 ∷ 0 ∷ 0 ∷ 2 ∷ 4 ∷ 0 ∷ 0 ∷ 0 ∷ 12 ∷ 0 ∷ 0 ∷ 0 ∷ []

abbrev two_reasons_mended : List ℕ
two_reasons_mended = 85 ∷ 81 ∷ 73 ∷ 1 ∷ 0 ∷ 3 ∷ 0 ∷ 0 ∷ 0 ∷ 0 ∷ 1 ∷ 4 ∷ 0 ∷ 0 ∷ 0 ∷ 10 ∷ 0 ∷ 0 ∷ 0 ∷ 0 ∷ 4 ∷ 0 ∷ 0 ∷ 0 ∷ 11 ∷ 0 ∷ 0 ∷ 0 ∷ 0 ∷ 4 ∷ 0 ∷ 0 ∷ 0 ∷ 12 ∷ 0 ∷ 0 ∷ 0 ∷ []

pub two_reasons_is : (mend_answer two_reasons 37 4 ≡ Taken) × ((mend_bytes two_reasons ≡ two_reasons_mended) × (mend_list two_reasons ≡ 1 ∷ 7 ∷ 2 ∷ 6 ∷ []))
unfolding mend_answer mend_shape mend_bytes mend_list mend_changed shape shape_in per_desk image_size mark_bytes image_in read_nodes read_heads heads_of front tab joined form_in marked known node_place header_size node_size heads_at width_of at_w head_lines no_heads no_contents mended spare_mended twins_mended bytes_mended cleared unclear_at spare_at largest_at larger_at reason_at is_changed changed count changes recovered head_of largest twins has_twin dummy_of any least image_bytes head_bytes body_bytes
two_reasons_is = (refl, (refl, refl))

-- the same in version 2
abbrev wide_reasons : List ℕ
wide_reasons = 85 ∷ 81 ∷ 73 ∷ 2 ∷ 0 ∷ 3 ∷ 0 ∷ 0 ∷ 0 ∷ 0 ∷ 0 ∷ 0 ∷ 0 ∷ 0 ∷ 1 ∷ 4 ∷ 0 ∷ 0 ∷ 0 ∷ 0 ∷ 0 ∷ 0 ∷ 0 ∷ 10 ∷ 0 ∷ 0 ∷ 0 ∷ 1 ∷ 4 ∷ 0 ∷ 0 ∷ 0 ∷ 0 ∷ 0 ∷ 0 ∷ 0 ∷ 11 ∷ 0 ∷ 0 ∷ 0 ∷ 2 ∷ 4 ∷ 0 ∷ 0 ∷ 0 ∷ 0 ∷ 0 ∷ 0 ∷ 0 ∷ 12 ∷ 0 ∷ 0 ∷ 0 ∷ []

abbrev wide_reasons_mended : List ℕ
wide_reasons_mended = 85 ∷ 81 ∷ 73 ∷ 2 ∷ 0 ∷ 3 ∷ 0 ∷ 0 ∷ 0 ∷ 0 ∷ 0 ∷ 0 ∷ 0 ∷ 0 ∷ 1 ∷ 4 ∷ 0 ∷ 0 ∷ 0 ∷ 0 ∷ 0 ∷ 0 ∷ 0 ∷ 10 ∷ 0 ∷ 0 ∷ 0 ∷ 0 ∷ 4 ∷ 0 ∷ 0 ∷ 0 ∷ 0 ∷ 0 ∷ 0 ∷ 0 ∷ 11 ∷ 0 ∷ 0 ∷ 0 ∷ 0 ∷ 4 ∷ 0 ∷ 0 ∷ 0 ∷ 0 ∷ 0 ∷ 0 ∷ 0 ∷ 12 ∷ 0 ∷ 0 ∷ 0 ∷ []

pub wide_reasons_is : (mend_answer wide_reasons 53 4 ≡ Taken) × ((mend_bytes wide_reasons ≡ wide_reasons_mended) × (mend_list wide_reasons ≡ 1 ∷ 7 ∷ 2 ∷ 6 ∷ []))
unfolding mend_answer mend_shape mend_bytes mend_list mend_changed shape shape_in per_desk image_size mark_bytes image_in read_nodes read_heads heads_of front tab joined form_in marked known node_place header_size node_size heads_at width_of at_w head_lines no_heads no_contents mended spare_mended twins_mended bytes_mended cleared unclear_at spare_at largest_at larger_at reason_at is_changed changed count changes recovered head_of largest twins has_twin dummy_of any least image_bytes head_bytes body_bytes
wide_reasons_is = (refl, (refl, refl))

-- "UQP" has no mender: 2, with its T and the indices of its desks not looked at
pub desks_is : (n t : ℕ) → mend_answer (85 ∷ 81 ∷ 80 ∷ 1 ∷ 0 ∷ n ∷ t ∷ 0 ∷ 0 ∷ 0 ∷ 0 ∷ []) 600 0 ≡ Mark
unfolding mend_answer mend_shape form_in marked per_desk
desks_is n t = refl

-- every node is recovered: the one with the largest index, for 8, and no other
abbrev all_recovered : List ℕ
all_recovered = 85 ∷ 81 ∷ 73 ∷ 1 ∷ 0 ∷ 3 ∷ 0 ∷ 0 ∷ 0 ∷ 0 ∷ 1 ∷ 3 ∷ 0 ∷ 0 ∷ 0 ∷ 10 ∷ 0 ∷ 0 ∷ 0 ∷ 1 ∷ 7 ∷ 0 ∷ 0 ∷ 0 ∷ 11 ∷ 0 ∷ 0 ∷ 0 ∷ 1 ∷ 5 ∷ 0 ∷ 0 ∷ 0 ∷ 12 ∷ 0 ∷ 0 ∷ 0 ∷ []

abbrev all_recovered_mended : List ℕ
all_recovered_mended = 85 ∷ 81 ∷ 73 ∷ 1 ∷ 0 ∷ 3 ∷ 0 ∷ 0 ∷ 0 ∷ 0 ∷ 1 ∷ 3 ∷ 0 ∷ 0 ∷ 0 ∷ 10 ∷ 0 ∷ 0 ∷ 0 ∷ 0 ∷ 7 ∷ 0 ∷ 0 ∷ 0 ∷ 11 ∷ 0 ∷ 0 ∷ 0 ∷ 1 ∷ 5 ∷ 0 ∷ 0 ∷ 0 ∷ 12 ∷ 0 ∷ 0 ∷ 0 ∷ []

pub all_recovered_is : (mend_answer all_recovered 37 2 ≡ Taken) × ((mend_bytes all_recovered ≡ all_recovered_mended) × (mend_list all_recovered ≡ 1 ∷ 8 ∷ []))
unfolding mend_answer mend_shape mend_bytes mend_list mend_changed shape shape_in per_desk image_size mark_bytes image_in read_nodes read_heads heads_of front tab joined form_in marked known node_place header_size node_size heads_at width_of at_w head_lines no_heads no_contents mended spare_mended twins_mended bytes_mended cleared unclear_at spare_at largest_at larger_at reason_at is_changed changed count changes recovered head_of largest twins has_twin dummy_of any least image_bytes head_bytes body_bytes
all_recovered_is = (refl, (refl, refl))

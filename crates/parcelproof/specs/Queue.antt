-- Where the enqueues that are still queued stand in the queue that the ending recovers, which is what the page's line prints.
use Rattle.std.specs.Prelude.{ℕ, ◌<◌, ◌≡◌, true, List, ◌↔◌}
use Rattle.image.specs.Layout.{content_at}
use Rattle.image.specs.declared.Image.{Image}
use Rattle.machine.specs.Rising.{among, Rising}
use Rattle.machine.specs.Start.{queue_of}
use Rattle.answer.specs.Answers.{accepted}
use Rattle.page.specs.Refusals.{page_answer, ending_count, ending_in}
use Rattle.lawful.specs.Demand3.{Bytes}
use Rattle.parcels.specs.Parcel.{is_linked}
use Rattle.parcels.specs.Despatch.{still_queued}
use Rattle.parcels.specs.declared.Parcel.{Parcel}

-- "still queued (.. its node is recovered with the index it was linked with)": its node stands in the queue, by that index
pub record Queues (g : Image) (p : Parcel) : Type 0 where
  pub there : among p.node (queue_of g)
  pub index : (content_at g.nodes p.node).index ≡ p.index

-- exactly such linked ones are still queued. The queue rises by index, so it has them in the order of their indices. The list has them in begin order, and the
-- two may differ: threads 0 and 1 begin an enqueue each, in this order, and 1 links first
abbrev pub QueuedThere : Type 0
QueuedThere = (s : List ℕ) → Bytes s → accepted (page_answer s) ≡ true → (k : ℕ) → k < ending_count s
    → Rising (λ i. (content_at (ending_in s k).nodes i).index) (queue_of (ending_in s k))
    × ((p : Parcel) → (still_queued (ending_in s k) p ≡ true) ↔ ((is_linked p ≡ true) × Queues (ending_in s k) p))

-- Small probe files, replayed by computation: all agree; an answer differs; a refusal behind a difference; the order of refusals.
use Prim.Native.Nat.{ℕ, ◌/◌, ◌%◌}
use mathlib.Core.Path.{◌≡◌, refl}
use mathlib.Core.Bool.{true, false}
use mathlib.Core.List.{List, [], ◌∷◌, ◌++◌}
use lib.ListN.{replicate, length}
use Rattle.lists.specs.Find.{least, any}
use Rattle.lists.specs.Tab.{tab, front}
use Rattle.lists.specs.Word.{has, with, without, word_of}
use Rattle.answer.specs.Answers.{Taken, Kind, Number, NotZero, Idle, Clean}
use Rattle.image.specs.Bytes.{at_w}
use Rattle.image.specs.Form.{known, width_of, top_of, heads_at, node_size, header_size, head_lines, own_threads, per_desk, node_place, image_size}
use Rattle.image.specs.Layout.{same_content, no_contents, marked, shape_in, read_nodes, image_in, no_heads, heads_of, read_heads, form_in}
use Rattle.image.specs.Recovered.{largest, head_of, recovered, twins, has_twin, first_twin, dummy_of, first_unclear}
use Rattle.image.specs.Refusals.{startable, sound, image_answer}
use Rattle.machine.specs.Record.{blank_nodes, idle_threads, no_flushed, no_sets}
use Rattle.machine.specs.Flush.{late_after, over_after}
use Rattle.machine.specs.Line.{line_at, put_line}
use Rattle.machine.specs.Start.{insert, risen, behind, last_of, start_with}
use Rattle.machine.specs.Retire.{next_free, released_at, released, others, retired}
use Rattle.machine.specs.Event.{event_at}
use Rattle.schedule.specs.Layout.{schedule_in}
use Rattle.schedule.specs.Run.{bench_at}
use Rattle.replaying.specs.Probe.{probe_answer, asked, odd}
use Rattle.replaying.specs.Replay.{refused_at, odd_at, first_refused, events_answer, replay_answer, first_odd, nothing_odd, odd_in, replay_of}
use Rattle.replaying.specs.Replay.{Replayed}

-- N = 2, T = 1, the all-zero image, so many events
unfoldable pub probe : ℕ → List ℕ → List ℕ
probe k l = 85 ∷ 81 ∷ 82 ∷ 1 ∷ 0 ∷ 1 ∷ k ∷ 0 ∷ 85 ∷ 81 ∷ 73 ∷ 1 ∷ 0 ∷ 2 ∷ replicate 22 0 ++ l

-- kind and number; observed answer and item; the last byte
unfoldable pub seen : ℕ → ℕ → ℕ → ℕ → ℕ → List ℕ
seen k t a v z = k ∷ t ∷ 0 ∷ 0 ∷ 0 ∷ 0 ∷ a ∷ v ∷ 0 ∷ 0 ∷ 0 ∷ z ∷ []

-- a dequeue of the empty queue answers Empty at its fourth step, the fence
unfoldable pub dequeued : ℕ → ℕ → List ℕ
dequeued a v = probe 5 (seen 2 0 0 0 0 ++ seen 3 0 0 0 0 ++ seen 3 0 0 0 0 ++ seen 3 0 0 0 0 ++ seen 3 0 a v 0)

pub holds :
    (replay_of (dequeued 5 0) ≡ nothing_odd Taken)
    × (replay_of (dequeued 4 9) ≡ record { answer = Taken; differs = true; event = 4; seen = 4; seen_item = 9; given = 5; given_item = 0 })
    × (replay_of (dequeued 5 1) ≡ nothing_odd (NotZero 4))
    × (replay_of (probe 2 (seen 2 0 1 0 0 ++ seen 9 0 0 0 0)) ≡ nothing_odd (Kind 1))
    × (replay_of (probe 1 (seen 3 7 6 0 0)) ≡ nothing_odd (Kind 0))
    × (replay_of (probe 1 (seen 3 7 0 0 1)) ≡ nothing_odd (Number 0))
    × (replay_of (probe 1 (seen 3 0 0 0 1)) ≡ nothing_odd (NotZero 0))
    × (replay_of (probe 1 (seen 3 0 0 0 0)) ≡ nothing_odd (Idle 0))
    × (replay_of (probe 2 (seen 2 0 1 0 0 ++ seen 4 0 0 0 0)) ≡ nothing_odd (Clean 1))
    × (replay_of (probe 1 (seen 4 0 0 0 1)) ≡ nothing_odd (NotZero 0))
unfolding probe seen dequeued least any tab front has with without word_of same_content no_contents at_w known width_of top_of heads_at node_size header_size marked form_in node_place image_size shape_in read_nodes image_in
    head_lines own_threads per_desk no_heads heads_of read_heads largest head_of recovered twins has_twin first_twin dummy_of first_unclear startable sound image_answer blank_nodes idle_threads no_flushed no_sets late_after over_after
    line_at put_line insert risen behind last_of start_with next_free released_at released others retired event_at schedule_in bench_at
    probe_answer asked odd refused_at odd_at first_refused events_answer replay_answer first_odd odd_in replay_of
holds = (refl, refl, refl, refl, refl, refl, refl, refl, refl, refl)

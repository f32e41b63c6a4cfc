use Rattle.std.proofs.Common.{arith}
use Rattle.lists.specs.Word.{has}
use Rattle.lists.proofs.WordLaws as words
use Rattle.machine.specs.Place.{is_waiting, is_held, in_enqueue, in_dequeue, in_queue, places_of}
use Rattle.range.proofs.InRange.{in_range_lem}
use Rattle.range.proofs.Counts.{count_le}
use Rattle.range.proofs.place.places_of.Goals as goal

pub overflow_cast-result : goal.overflow_cast-result
overflow_cast-result c = omega (arith, c.queued.ensures, count_le (in_queue c.args.m) c.args.m.n, (in_range_lem _ c.requires).sizes.nodes_high)

pub overflow_cast-result-2 : goal.overflow_cast-result-2
overflow_cast-result-2 c = omega (arith, c.total.ensures, count_le (has c.args.m.free) 64)

pub waiting-requires : goal.waiting-requires
waiting-requires c = (in_range_lem _ c.requires).sizes.nodes_high

pub overflow_cast-result-3 : goal.overflow_cast-result-3
overflow_cast-result-3 c = omega (arith, c.waiting.ensures, count_le (is_waiting c.args.m) c.args.m.n, (in_range_lem _ c.requires).sizes.nodes_high)

pub held-requires : goal.held-requires
held-requires c = (in_range_lem _ c.requires).sizes.threads_high

pub overflow_cast-result-4 : goal.overflow_cast-result-4
overflow_cast-result-4 c = omega (arith, c.held.ensures, count_le (is_held c.args.m) c.args.m.n, (in_range_lem _ c.requires).sizes.nodes_high)

pub enqueued-requires : goal.enqueued-requires
enqueued-requires c = (in_range_lem _ c.requires).sizes.threads_high

pub overflow_cast-result-5 : goal.overflow_cast-result-5
overflow_cast-result-5 c = omega (arith, c.enqueued.ensures, count_le (in_enqueue c.args.m) c.args.m.n, (in_range_lem _ c.requires).sizes.nodes_high)

pub dequeued-requires : goal.dequeued-requires
dequeued-requires c = (in_range_lem _ c.requires).sizes.threads_high

pub overflow_cast-result-6 : goal.overflow_cast-result-6
overflow_cast-result-6 c = omega (arith, c.dequeued.ensures, count_le (in_dequeue c.args.m) c.args.m.n, (in_range_lem _ c.requires).sizes.nodes_high)

pub returns : goal.returns
unfolding places_of
returns c =
    let m = c.args.m in
    let f = in_range_lem m c.requires in
    rw (c.queued.ensures, c.waiting.ensures, c.held.ensures, c.enqueued.ensures, c.dequeued.ensures, c.total.ensures, words.count_narrow m.n 64 m.free f.free f.sizes.nodes_high)

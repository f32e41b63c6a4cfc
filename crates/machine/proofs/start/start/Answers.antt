use Rattle.machine.specs.Start.{start_with, queue_of}
use Rattle.machine.specs.Laid.{start_nodes, start_kept, start_free}
use Rattle.machine.proofs.QueueLaws as queues
use Rattle.machine.proofs.TableLaws as tables
use native.Mathlib.Omega.{arith}
use Rattle.machine.proofs.start.start.Goals as goal

pub overflow_cast-d : goal.overflow_cast-d
overflow_cast-d c = omega (arith, c.dummy_of-d.ensures, tables.dummy_le c.args.g)

pub last-tail-requires : goal.last-tail-requires
last-tail-requires c = let g = c.args.g in omega (arith, queues.queue_count g c.queue_of-q.result g.n c.queue_of-q.ensures)

pub returns : goal.returns
unfolding start_with start_nodes start_kept start_free
returns c =
    let g = c.args.g in
    rw (
      c.no_sets-over.ensures,
      c.no_sets-over_heads.ensures,
      c.no_sets-late.ensures,
      c.no_flushed-flushed.ensures,
      c.idle_threads-threads.ensures,
      c.kept_of-kept.ensures,
      c.heads_of-heads.ensures,
      c.nodes_of-nodes.ensures,
      c.free_of-free.ensures,
      c.last-tail.ensures,
      c.queue_of-q.ensures,
      queues.laid_take (queue_of g),
      c.dummy_of-d.ensures,
    )

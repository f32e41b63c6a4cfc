use Rattle.record.specs.Layout.{record_in}
use Rattle.record.proofs.reading.record_in.Goals as goal

pub returns : goal.returns
unfolding record_in
returns c = rw (c.sets_in-over.ensures, c.sets_in-over_heads.ensures, c.sets_in-late.ensures, c.flushed_in-flushed.ensures, c.threads_in-threads.ensures, c.kept_in-kept.ensures, c.nodes_in-nodes.ensures, c.longs_in-kept_heads.ensures, c.longs_in-heads.ensures, c.long_at-free.ensures)

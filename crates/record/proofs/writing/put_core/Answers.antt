use Rattle.record.proofs.Laws as laws
use Rattle.record.proofs.writing.put_core.Goals as goal

pub returns : goal.returns
returns c = rw (c.put_threads.ensures, c.put_nodes.ensures, c.put_longs-2.ensures, c.put_longs.ensures, c.copy.ensures, c.head_bytes-a.ensures) (laws.core_over c.args.m c.args.b.now)

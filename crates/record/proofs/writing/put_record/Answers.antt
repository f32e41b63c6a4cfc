use Rattle.record.proofs.Laws as laws
use Rattle.record.proofs.writing.put_record.Goals as goal

pub returns : goal.returns
returns c = rw (c.put_sets.ensures, c.put_flushed.ensures, c.put_core.ensures) (laws.record_over c.args.m c.args.b.now)

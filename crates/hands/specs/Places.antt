-- Lines that have a place in the record's tables.
use Rattle.std.specs.Prelude.{◌<◌}
use Rattle.machine.specs.declared.Line.{Line}
use Rattle.machine.specs.declared.Line.TheVariants.{OfHead as of_head, OfNode as of_node}

abbrev pub HasPlace : Line → Type 0
HasPlace (of_head k) = k < 8
HasPlace (of_node i) = i < 64

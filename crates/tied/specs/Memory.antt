-- The record's lines and touches, apart from the model's.
pub use Rattle.machine.specs.declared.Line.{Line}
pub use Rattle.machine.specs.declared.Line.TheVariants.{OfHead as of_head, OfNode as of_node}
pub use Rattle.machine.specs.declared.Touch.{Touch}
pub use Rattle.machine.specs.declared.Touch.TheVariants.{Nothing as nothing, Store as a_store, Persist as a_persist, Flush as a_flush, Fence as a_fence}
unfoldable pub use Rattle.machine.specs.Line.{line_at, put_line}

-- The machine as an engine with lines.
pub mod Frame

pub mod Parts
pub mod InRange
pub mod Narrow
pub mod Counts

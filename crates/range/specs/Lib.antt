pub mod Parts
pub mod Facts

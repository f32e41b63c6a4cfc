pub mod Come
pub mod Reached

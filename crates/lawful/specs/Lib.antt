pub mod Operation
pub mod Plain
pub mod Lawful
pub mod Added
pub mod Demand3

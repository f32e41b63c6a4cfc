pub mod Converted
pub mod Desks

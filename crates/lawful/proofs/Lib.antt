pub mod Orders
pub mod Refuted
pub mod Allowed

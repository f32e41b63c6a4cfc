pub mod Bytes
pub mod Form
pub mod Layout
pub mod Recovered
pub mod Refusals

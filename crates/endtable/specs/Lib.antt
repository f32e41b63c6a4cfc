pub mod Rows
pub mod Touched
pub mod Since
pub mod Opened
pub mod Picks
pub mod Tables
pub mod Benches

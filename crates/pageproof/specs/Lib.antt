pub mod Longer
pub mod Without

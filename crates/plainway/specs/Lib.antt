pub mod Plainly
pub mod Noting

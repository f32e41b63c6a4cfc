pub mod Verdicts
pub mod Written

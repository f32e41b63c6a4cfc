-- A start establishes the whole invariant.
pub mod Lists
pub mod Parts
pub mod Begins

pub mod Flow
pub mod Counted
pub mod Computed

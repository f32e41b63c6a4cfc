pub mod ReplayLaws
pub mod First
pub mod Unique
pub mod Cases
pub mod Long

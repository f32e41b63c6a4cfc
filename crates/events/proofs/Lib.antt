pub mod ByAnswer
pub mod OwnLaws
pub mod Refused
pub mod Unique
pub mod Kept
pub mod Shut

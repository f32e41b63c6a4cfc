pub mod OwnLaws
pub mod LineLaws
pub mod Unique

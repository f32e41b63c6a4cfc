pub mod OnceLaws
pub mod ByTimes
pub mod Line
pub mod Fan
pub mod Images
pub mod Since
pub mod Plain

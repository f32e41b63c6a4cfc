pub mod Converted
pub mod Refused
pub mod Unique
pub mod Whole
pub mod Mended
pub mod Replays
pub mod Despatched
pub mod Plainly

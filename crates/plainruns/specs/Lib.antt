pub mod Playable
pub mod Turns

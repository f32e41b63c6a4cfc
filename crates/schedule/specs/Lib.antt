pub mod Layout
pub mod Run
pub mod Running

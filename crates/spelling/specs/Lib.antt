pub mod Words
pub mod Lines
pub mod Layout
pub mod Reading
pub mod Writing

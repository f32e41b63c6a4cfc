pub mod Begun
pub mod Apart
pub mod Queue

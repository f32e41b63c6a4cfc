pub mod Starred
pub mod Wide
pub mod Clean
pub mod Desks
pub mod Fences
pub mod Asked

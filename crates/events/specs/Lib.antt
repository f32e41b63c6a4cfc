pub mod Arms
pub mod Applied
pub mod Points

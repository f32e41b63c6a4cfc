pub mod ListLaws
pub mod ByteLaws
pub mod NoteLaws
pub mod WayLaws
pub mod RunLaws
pub mod Unique

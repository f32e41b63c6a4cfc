pub mod Apart
pub mod Gives
pub mod Laws
pub mod LineLaws
pub mod ReplayLaws

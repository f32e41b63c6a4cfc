pub mod Gives
pub mod PackLaws
pub mod WriteLaws
pub mod EndLaws
pub mod Unique

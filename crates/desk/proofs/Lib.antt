pub mod ReadLaws
pub mod SpellLaws
pub mod Unique

pub mod Decimal
pub mod Written
pub mod ItemLaws
pub mod Short
pub mod Fittings
pub mod Picked
pub mod PageLaws

pub mod RowLaws
pub mod OverLaws
pub mod GoingLaws
pub mod PageLaws

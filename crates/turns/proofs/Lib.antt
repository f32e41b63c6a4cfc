pub mod Next
pub mod Still
pub mod InTurn
pub mod Computed

pub mod Rows
pub mod Going
pub mod Paged

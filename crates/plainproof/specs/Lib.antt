pub mod Once
pub mod Plain
pub mod Times

pub mod Signed
pub mod Called
pub mod Judged
pub mod Images

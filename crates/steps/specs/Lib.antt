pub mod Ready
pub mod Numbers

pub mod History
pub mod Search
pub mod Place
pub mod Judged

pub mod Find
pub mod Tab
pub mod Text
pub mod Word

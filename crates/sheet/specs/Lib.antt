pub mod Marks
pub mod Order
pub mod Told
pub mod Sheet

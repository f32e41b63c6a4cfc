pub mod Seats
pub mod Moments
pub mod Marked
pub mod Frame
pub mod Distinct

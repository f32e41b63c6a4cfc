-- What is so after every event.
pub mod Plain
pub mod Range
pub mod Abroad
pub mod Runs
pub mod Steady
pub mod Six
pub mod Count
pub mod Numbers

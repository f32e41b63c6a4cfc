pub mod Packed
pub mod Calls
pub mod Judging
pub mod Line
pub mod Texts
pub mod Conversions
pub mod Mend
pub mod Probes

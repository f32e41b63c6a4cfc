pub mod Laws
pub mod Unique
pub mod RoundTrip
pub mod ThereAndBack

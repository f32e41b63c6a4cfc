pub mod Parcel
pub mod Despatch
pub mod Started

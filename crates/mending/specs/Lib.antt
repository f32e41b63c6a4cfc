pub mod Mended
pub mod Reasons
pub mod Bytes

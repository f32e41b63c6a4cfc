pub mod Others
pub mod Places
pub mod Sets

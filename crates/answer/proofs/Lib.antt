pub mod Injective
pub mod Results

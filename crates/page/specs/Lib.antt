pub mod Contents
pub mod Endings
pub mod Refusals
pub mod Printed
pub mod Filled

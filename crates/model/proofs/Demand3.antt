-- The lawful half of demand 3.
pub mod Endings
pub mod ThreeB
pub mod Pair

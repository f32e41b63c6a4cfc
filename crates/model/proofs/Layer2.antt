-- The second layer: contents and persisted copies.
pub mod Contents
pub mod Heads
pub mod Invariant
pub mod Stores
pub mod Hands
pub mod A8
pub mod D4

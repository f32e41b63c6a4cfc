-- The first layer: structure. The log, links, hands, waiting nodes; over the core alone.
pub mod Ghost
pub mod Places
pub mod Goto
pub mod Local
pub mod Memory
pub mod A8
pub mod D4
pub mod Leave
pub mod Hands
pub mod D7
pub mod Stops

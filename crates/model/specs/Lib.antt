-- The abstract machine: all that a reader must believe. In the order of reading.
pub mod Basics
pub mod Lines
pub mod Conf
pub mod Core
pub mod Changes
pub mod Steps
pub mod Choice
pub mod Recovery
pub mod Machine
pub mod Page
pub mod Lawful
pub mod Bench
pub mod Demand3
pub mod Places
pub mod Always

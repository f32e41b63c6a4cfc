-- What is proved of the abstract machine. The lawful half of demand 3 is in Demand3, what is so after every event in Always.
pub mod Basics
pub mod Lines
pub mod Times
pub mod Words
pub mod Queue
pub mod Layer1
pub mod Layer2
pub mod Layer3
pub mod Start
pub mod Page
pub mod Demand3
pub mod Always
pub mod Variants

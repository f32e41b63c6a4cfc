-- What a record shows of the abstract machine, and what is so of every record of a run.
pub mod Memory
pub mod Shown
pub mod Always

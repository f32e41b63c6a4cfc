pub mod Probe
pub mod Replay

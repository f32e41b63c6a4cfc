-- The third layer: effects and operations; and the three layers together through every event but a crash.
pub mod Effects
pub mod Invariant
pub mod Changes
pub mod All
pub mod Enqueue
pub mod Dequeue
pub mod Event
pub mod Foreign
pub mod Coupled

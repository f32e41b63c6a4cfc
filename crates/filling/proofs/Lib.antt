pub mod Lined
pub mod Numbers
pub mod Answers
pub mod Tables
pub mod Unique
pub mod Small
pub mod Wide
pub mod Joined

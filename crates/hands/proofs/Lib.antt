pub mod FlushLaws
pub mod HandLaws

pub mod PutLaws
pub mod TurnLaws

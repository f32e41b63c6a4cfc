pub mod PlayLaws
pub mod PlanLaws
pub mod TurnLaws

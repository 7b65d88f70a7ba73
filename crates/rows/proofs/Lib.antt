-- Laws that belong to no one function.
pub mod Agreeing
pub mod FitLaws
pub mod Fours
pub mod Lengths
pub mod Maps
pub mod PlanLaws

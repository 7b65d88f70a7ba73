-- Laws that belong to no one function: from the net that the code holds to the rules.
pub mod AgreeTies
pub mod Behind
pub mod ClosingLaws
pub mod HeldLaws
pub mod ListTies
pub mod PlainTies
pub mod ReadTies
pub mod SavedTies
pub mod SceneTies
pub mod StoreTies
pub mod ThreadTies

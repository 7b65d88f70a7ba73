pub mod Aggregates
pub mod Changes
pub mod ChangeContracts

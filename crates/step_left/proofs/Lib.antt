-- Laws of lists of picks that belong to no one function.
pub mod KeepStep
pub mod CarriedLaws

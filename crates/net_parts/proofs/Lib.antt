-- Laws of tests that belong to no one function.
pub mod Counts
pub mod DistinctLaws
pub mod FieldLaws
pub mod HeldLaws
pub mod MarkLaws
pub mod RowLaws
pub mod TextLaws

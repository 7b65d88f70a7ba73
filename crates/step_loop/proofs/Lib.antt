-- Laws that belong to no one function.
pub mod FlagsAll
pub mod MarkLaws
pub mod RowLaws

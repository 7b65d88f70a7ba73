-- Laws that belong to no one function.
pub mod FieldLaws
pub mod LookingLaws
pub mod WantLaws

-- What a moving window answers.
pub mod Examples
pub mod Since
pub mod WindowBytes
pub mod Windows

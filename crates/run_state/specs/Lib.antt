-- The state of a run.
pub mod States

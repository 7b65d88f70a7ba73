-- What a run gives back.
pub mod Runs
pub mod Further

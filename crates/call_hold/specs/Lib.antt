-- What the functions on what a thread holds require.
pub mod Holdings

-- What the calls of other programs give back.
pub mod Calls
pub mod Examples
pub mod Layouts
pub mod Moments
pub mod Openings
pub mod PageReading
pub mod Replies
pub mod TablePages
pub mod Traces

-- Laws of what calls put out.
pub mod OwnPicks
pub mod ThreadsLeft

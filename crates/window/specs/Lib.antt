-- What the calls of a window give back.
pub mod SinceBeginning
pub mod WindowCalls

-- Laws of traces.
pub mod TraceLaws

-- Laws of threads as bytes.
pub mod ThreadLaws

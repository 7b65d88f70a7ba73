-- Laws of a state's bytes.
pub mod CallLaws
pub mod PutLaws
pub mod ReadLaws

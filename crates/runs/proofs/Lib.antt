-- Laws of runs that belong to no one function.
pub mod BytesLaws
pub mod ListLaws
pub mod FurtherLaws

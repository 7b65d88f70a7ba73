-- Laws of a moment's records, and of what a sound net gives them.
pub mod MomentLaws
pub mod NetShapes
pub mod ThreadRecordLaws

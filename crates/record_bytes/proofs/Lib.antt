-- Laws of bytes: groups, flags, and parts put end to end.
pub mod ByteLaws
pub mod GroupLaws

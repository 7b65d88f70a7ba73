-- Laws of records end to end, and of what a thread holds.
pub mod HeldLaws
pub mod HoldLaws
pub mod RecordLaws

pub mod MeetContracts
pub mod Situations

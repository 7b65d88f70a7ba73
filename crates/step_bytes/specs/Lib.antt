-- Picks and answers as bytes.
pub mod AnswerBytes
pub mod PickBytes

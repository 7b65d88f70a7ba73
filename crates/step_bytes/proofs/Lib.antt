-- Laws of picks and answers as bytes.
pub mod AnswerLaws
pub mod PickLaws

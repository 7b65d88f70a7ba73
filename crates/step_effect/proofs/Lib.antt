-- Laws that belong to no one function.
pub mod AnswerForms
pub mod ByteLaws
pub mod JudgeLaws
pub mod KindTies

-- Laws that belong to no one function: from the parts that a pick meets to the rules.
pub mod CompleteLaws
pub mod DecideLaws
pub mod EffectTies
pub mod LoopLaws
pub mod MeetTies
pub mod MovedLaws
pub mod RoundTies
pub mod SituationLaws
pub mod LoopChangeLaws

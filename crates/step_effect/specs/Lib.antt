pub mod EffectContracts
pub mod TableContracts

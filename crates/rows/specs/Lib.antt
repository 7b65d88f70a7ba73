pub mod Fit
pub mod Looking
pub mod LookingExamples
pub mod Matching
pub mod Plans
pub mod Relations
pub mod View

-- What picks leave, and what they come to.
pub mod Leaving
pub mod Carried

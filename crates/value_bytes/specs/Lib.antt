-- Bytes one after the other.
pub mod Bytes

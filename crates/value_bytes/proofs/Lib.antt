-- Laws of bytes stored one after the other.
pub mod Parts
pub mod Stores

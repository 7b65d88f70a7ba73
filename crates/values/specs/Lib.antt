pub mod Folding
pub mod Lists
pub mod Operands
pub mod Values

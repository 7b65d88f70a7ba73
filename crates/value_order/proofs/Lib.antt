-- Laws that belong to no one function.
pub mod Orders
pub mod Texts

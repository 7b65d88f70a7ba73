-- Laws that belong to no one function.
pub mod AgreeLaws
pub mod Arrays
pub mod BindLaws
pub mod Bools
pub mod ByPlace
pub mod Firsts
pub mod FlagLaws
pub mod Ints
pub mod ListLaws
pub mod LookLaws
pub mod Loops
pub mod PairLaws
pub mod PlaceLaws
pub mod RangeLaws
pub mod RemoveLaws
pub mod SameLaws
pub mod Sizes

-- Laws of how loading goes through a file.
pub mod LeftLaws
pub mod PlaceTies
pub mod WalkLaws

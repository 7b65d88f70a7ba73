-- Laws of cells, lines and sums, and that a page reads as its relation.
pub mod BlankLaws
pub mod CellLaws
pub mod IntCells
pub mod LineLaws
pub mod OutcomeLaws
pub mod PlaceLaws
pub mod ReadLaws
pub mod SumLaws

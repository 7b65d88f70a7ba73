-- Laws of arrays of Ints, of their figures, of a record's Int, of a window that slides, and of the records taken since a beginning.
pub mod FigureLaws
pub mod IntLaws
pub mod RecordLaws
pub mod SeriesLaws
pub mod SlideLaws
pub mod TakeLaws

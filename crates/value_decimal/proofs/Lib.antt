pub mod CastLaws
pub mod DecimalLaws
pub mod PutLaws
pub mod ReadingLaws

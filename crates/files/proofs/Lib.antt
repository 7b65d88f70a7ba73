-- Laws of the model of files: what loading accepts is sound and has the file's tables; demand 3; what is written is read again.
pub mod EndToEnd
pub mod EngineLaws
pub mod FaultLaws
pub mod FileLaws
pub mod LoadLaws
pub mod PutLaws
pub mod ReadBack
pub mod RecordLaws
pub mod RoundLaws
pub mod RoundTrip
pub mod RowBack
pub mod TableBack
pub mod ValueBack
pub mod WrittenBack

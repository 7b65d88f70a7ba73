-- What a table's page is, and how it reads.
pub mod Examples
pub mod Pages
pub mod Readable

-- The contract of `page`, and the theorem of the page.
pub mod PageCall

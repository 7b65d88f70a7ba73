-- Laws of all tables put into their bytes.
pub mod WholeLaws

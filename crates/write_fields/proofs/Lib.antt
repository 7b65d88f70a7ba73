-- Laws of fields and records put into their bytes.
pub mod WriteLaws

-- Laws that belong to no one function, and the theorem of the call for a page.
pub mod CallLaws
pub mod PageReading

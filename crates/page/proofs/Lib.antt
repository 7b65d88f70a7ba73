-- The theorem of the page.
pub mod PageLaws

-- Laws for the groups.
pub mod AliasLaws
pub mod ItemLaws
pub mod RowLaws
pub mod RowTies

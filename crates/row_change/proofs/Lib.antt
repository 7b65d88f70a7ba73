-- Laws that belong to no one function.
pub mod AggregateLaws
pub mod FitLaws
pub mod Prepared
pub mod RangeLaws
pub mod SelectLaws
pub mod SweepLaws

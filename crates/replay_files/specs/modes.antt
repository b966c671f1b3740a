pub mod Apply
pub mod DetailsApply
pub mod Revert

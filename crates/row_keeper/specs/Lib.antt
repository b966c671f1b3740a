pub mod Kept
pub mod Store
pub mod MapKeeper

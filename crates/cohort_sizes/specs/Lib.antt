pub mod Births
pub mod Rates
pub mod Stretches
pub mod Kept

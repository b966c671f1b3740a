pub mod Philox
pub mod SeedTree

pub mod Packages
pub mod Parent
pub mod Applying

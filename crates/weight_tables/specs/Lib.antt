pub mod Finders
pub mod Weights
pub mod PrefixSums
pub mod Harmonic

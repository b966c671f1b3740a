pub mod InMemory
pub mod Sampled
pub mod modes

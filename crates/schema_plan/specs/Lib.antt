pub mod Citations
pub mod Sites
pub mod Rules
pub mod Limits
pub mod ReadyWords
pub mod Ready
pub mod Planned
pub mod Beside

pub mod Kinds
pub mod Form
pub mod Reading
pub mod Beside
pub mod Rules
pub mod Limits
pub mod Kept
pub mod Faults

pub mod Details
pub mod Undo

pub mod Lines
pub mod Rows
pub mod Made
pub mod Shown
pub mod LineRuns

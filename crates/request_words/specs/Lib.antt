pub mod Command
pub mod Form
pub mod Options
pub mod Ranges
pub mod Words

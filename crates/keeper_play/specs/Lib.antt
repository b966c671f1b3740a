pub mod Statements
pub mod Played

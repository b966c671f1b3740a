pub mod Pieces
pub mod WordList
pub mod Grammar
pub mod Written

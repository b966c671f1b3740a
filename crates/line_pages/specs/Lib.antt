pub mod Digits
pub mod Padding
pub mod Pages
pub mod Pieces
pub mod Rows

pub mod Playing
pub mod modes

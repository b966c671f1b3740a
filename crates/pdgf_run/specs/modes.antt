pub mod Check
pub mod Row

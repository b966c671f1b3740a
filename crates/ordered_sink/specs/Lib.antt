pub mod Calls
pub mod Ordered
pub mod Slots

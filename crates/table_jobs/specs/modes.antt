pub mod Sample
pub mod Snapshot
pub mod Unit

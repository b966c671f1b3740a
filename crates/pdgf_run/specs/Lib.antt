pub mod ReadingList
pub mod TopCall
pub mod Verdict
pub mod modes

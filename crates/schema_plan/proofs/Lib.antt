pub mod WordListLemmas
pub mod ReadyLemmas
pub mod PlannedLemmas
pub mod BesideLemmas
pub mod FieldSizeLemmas

mod AppliedLemmas
pub mod CarriedLemmas
pub mod DecideLemmas
mod DetailsAppliedLemmas
mod FileLemmas
mod ModeLemmas
mod OutcomeLemmas
pub mod ReportLemmas
mod RevertAfterLemmas
mod RevertedLemmas
mod TaskLemmas

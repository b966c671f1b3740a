pub mod CohortLemmas
pub mod RateLemmas
pub mod StretchLemmas

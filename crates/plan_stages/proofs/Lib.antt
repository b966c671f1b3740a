pub mod DictionaryLemmas
pub mod InputLemmas
pub mod LibraryLemmas
pub mod PlanLemmas

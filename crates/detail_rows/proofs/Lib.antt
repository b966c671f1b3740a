pub mod PackageLemmas
pub mod ParentLemmas

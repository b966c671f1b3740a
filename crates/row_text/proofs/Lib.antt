pub mod EscapeLemmas
pub mod DigitLemmas
pub mod PieceLemmas
pub mod LawLemmas
pub mod WrittenLemmas
pub mod LineLemmas
pub mod FieldListLemmas
pub mod ReadLemmas

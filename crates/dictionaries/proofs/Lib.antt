pub mod PieceLemmas
pub mod LineLemmas
pub mod MarkLemmas
pub mod ReadingLemmas
pub mod TextLemmas
pub mod BoundLemmas
pub mod DictionaryLemmas
pub mod WrittenLemmas

pub mod ApplyLemmas
pub mod ChunkLemmas
mod DetailsApplyLemmas
pub mod KeyedTextLemmas
pub mod ListLemmas
mod NameLemmas
pub mod ReplayLemmas
pub mod ReplayOutcomeLemmas
mod ReplayedLemmas
pub mod UndoLawLemmas

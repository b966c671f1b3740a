pub mod KeyedLineLemmas
pub mod NumberedLineLemmas
pub mod UnitLemmas
pub mod TableLemmas
mod DistinctLemmas
pub mod LineLemmas
pub mod StreamLemmas
pub mod MadeLemmas
pub mod OutcomeLemmas
pub mod ChainLemmas
pub mod InTurnLemmas
pub mod KeptLineLemmas

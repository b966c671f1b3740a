pub mod PrefixSumLemmas
pub mod SelectionLemmas
pub mod HarmonicLemmas
pub mod FinderLemmas

pub mod StoreLemmas
pub mod RefLemmas
pub mod UnitLemmas
pub mod OrdinalLemmas
pub mod RunLemmas
pub mod HeldLemmas
pub mod PlayedLemmas

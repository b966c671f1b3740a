pub mod CallLemmas
pub mod RoundLemmas
pub mod SlotLemmas
pub mod WaitingLemmas

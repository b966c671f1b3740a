mod CommandLemmas
mod FaultLemmas
mod FormLemmas
mod RangeLemmas
mod RequestLemmas
mod WalkLemmas

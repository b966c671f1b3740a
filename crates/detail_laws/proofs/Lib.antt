mod NumberedRowLemmas
mod LineFormLemmas
mod LineCountLemmas
pub mod ApplyLawLemmas
mod NameLemmas

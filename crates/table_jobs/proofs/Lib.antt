mod CsvJobLemmas
pub mod SampleLemmas
mod TextShelfLemmas
pub mod UndoLemmas

pub mod ListLemmas
pub mod LineLemmas
pub mod HeldRowLemmas
pub mod FieldLemmas
pub mod ReferenceFieldLemmas
mod NullCostLemmas
pub mod CohortLineLemmas
pub mod CohortFieldLemmas
pub mod PaddedLemmas
pub mod PartLemmas
mod StillLemmas
pub mod OperandLemmas
pub mod TotalLemmas
mod LookupLemmas
pub mod DerivedLemmas
pub mod RowFormLemmas
mod RestedLemmas
mod LookedUpLemmas
mod StillRowLemmas
pub mod RestedLineLemmas
mod ReportLemmas
mod KeptLemmas
pub mod PieceLemmas
pub mod RunListLemmas
pub mod RunTextLemmas
pub mod RunFieldLemmas
mod RunPieceLemmas
pub mod RunLookupLemmas
pub mod RunValueLemmas
mod RunParentLemmas
mod RunKeyLemmas
mod RowOfRunLemmas
mod ItemizedLemmas
mod RunTotalLemmas

pub mod DictionaryFiles
pub mod Inputs
pub mod Limits
pub mod PlanNames
pub mod Plans
pub mod Stages

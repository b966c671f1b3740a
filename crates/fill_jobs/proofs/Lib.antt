pub mod DetailFilesLemmas
mod DetailTextLemmas
mod PlayLemmas
mod SqlLemmas

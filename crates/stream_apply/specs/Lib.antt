pub mod KeyedLines
pub mod Streams
pub mod InTurn

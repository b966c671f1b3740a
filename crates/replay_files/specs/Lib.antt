pub mod Replay
pub mod UndoLaws
pub mod modes

pub mod Documents
pub mod Days
pub mod Places
pub mod Sequences
pub mod Found
pub mod FirstWrong
pub mod Refusals

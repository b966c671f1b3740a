pub mod DigitCount
pub mod DigitLemmas
pub mod LastDigits
pub mod LowBytes
pub mod LowBytesJoined
pub mod PaddingLemmas
pub mod Pasting
pub mod RowLemmas

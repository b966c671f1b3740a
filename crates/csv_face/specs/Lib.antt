pub mod Alike
pub mod Csv
pub mod Readers
pub mod Reading
pub mod Scan
pub mod Scanners

pub mod Schema
pub mod Text

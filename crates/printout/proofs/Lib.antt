pub mod Writes
pub mod Measures

pub mod Gates
pub mod Conditions

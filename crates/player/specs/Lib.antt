pub mod Turns
pub mod Player
pub mod Claims

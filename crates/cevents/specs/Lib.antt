pub mod Events
pub mod Decoded
pub mod Shown
pub mod Ways
pub mod Quick

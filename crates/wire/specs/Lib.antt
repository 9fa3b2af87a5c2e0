pub mod Choice
pub mod Slices
pub mod Numbers
pub mod Bits
pub mod Packet
pub mod Texts
pub mod Claims

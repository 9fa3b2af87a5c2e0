pub mod Format
pub mod Cursor
pub mod Claims

pub mod Writing
pub mod Print

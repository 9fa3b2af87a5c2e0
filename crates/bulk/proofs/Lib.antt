pub mod Running
pub mod Admission
pub mod Showing

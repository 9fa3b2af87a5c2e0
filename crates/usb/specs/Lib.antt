pub mod Request
pub mod Descriptor

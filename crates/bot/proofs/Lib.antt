pub mod Wrappers
pub mod RoundTrip

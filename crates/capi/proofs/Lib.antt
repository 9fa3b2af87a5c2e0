pub mod Calls
pub mod EitherRun

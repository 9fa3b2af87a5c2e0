pub mod Answer
pub mod Cbw
pub mod Csw
pub mod Claims

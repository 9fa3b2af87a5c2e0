pub mod Answers
pub mod Playing
pub mod Room
pub mod Loop

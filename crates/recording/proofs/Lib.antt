pub mod Entries
pub mod Cursors
pub mod Parses
pub mod Recordings

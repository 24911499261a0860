pub mod Writing
pub mod Lines
pub mod Begins
pub mod Entries

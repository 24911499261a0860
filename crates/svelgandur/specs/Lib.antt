pub mod Promises
pub mod Played

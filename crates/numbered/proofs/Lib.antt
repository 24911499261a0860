pub mod Codes
pub mod Played

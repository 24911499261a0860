pub mod OneResult
pub mod Played

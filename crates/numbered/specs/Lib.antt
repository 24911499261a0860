pub mod Coded
pub mod Played

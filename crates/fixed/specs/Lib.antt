pub mod Spots
pub mod Fixed

pub mod Runs
pub mod Placed
pub mod Walked

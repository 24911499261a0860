pub mod Same
pub mod Outcomes
pub mod Places
pub mod Holding
pub mod Cycle
pub mod Turns

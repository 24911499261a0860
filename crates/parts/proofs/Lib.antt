pub mod Standing
pub mod Concept
pub mod Promise

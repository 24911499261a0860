pub mod Behind
pub mod Body
pub mod Whole
pub mod Facts
pub mod Begins
pub mod Targets
pub mod Promise
pub mod Holding

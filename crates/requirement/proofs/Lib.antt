pub mod Bare
pub mod Whole
pub mod Promise

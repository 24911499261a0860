pub mod Owned
pub mod Outer
pub mod Stages
pub mod Length
pub mod Ends
pub mod Promise
pub mod Wrong

pub mod Calls
pub mod Refusing
pub mod Promise

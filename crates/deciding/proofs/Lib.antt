pub mod Owners
pub mod Messages
pub mod BothRead
pub mod Decided
pub mod Answered
pub mod Promise

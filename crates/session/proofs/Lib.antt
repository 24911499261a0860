pub mod Answered
pub mod Promise
pub mod Followed

pub mod Held
pub mod Subsumed
pub mod Alone
pub mod Marks
pub mod Sizes

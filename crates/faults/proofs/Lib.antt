pub mod Faults
pub mod Deeper
pub mod Filling
pub mod Owned
pub mod Held

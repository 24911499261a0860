pub mod Moved
pub mod Setting

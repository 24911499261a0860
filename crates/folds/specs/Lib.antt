pub mod Members
pub mod Notes
pub mod Folded

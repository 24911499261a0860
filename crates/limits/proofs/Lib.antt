pub mod Flat
pub mod Nodes
pub mod Putting
pub mod Inner
pub mod Limits
pub mod Runs

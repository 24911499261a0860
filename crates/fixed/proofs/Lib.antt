pub mod Cut
pub mod Nodes
pub mod Thresholds

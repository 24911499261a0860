pub mod Slips
pub mod Place
pub mod Parts
pub mod Changes
pub mod Set
pub mod Chains
pub mod Rows

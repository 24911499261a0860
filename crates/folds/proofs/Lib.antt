pub mod Fill
pub mod Scanning
pub mod Noting
pub mod Step

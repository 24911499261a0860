pub mod Peeled
pub mod Forms
pub mod Parts

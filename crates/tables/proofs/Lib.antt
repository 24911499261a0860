pub mod Stored
pub mod Sofar
pub mod Filling
pub mod Judging
pub mod Sorting

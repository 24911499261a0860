pub mod Walked
pub mod Judged
pub mod Sets
pub mod Posed
pub mod On

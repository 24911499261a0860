pub mod Sifting
pub mod Through
pub mod Inner

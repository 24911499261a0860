pub mod Sifting
pub mod Standing

pub mod Stands
pub mod Seeking

pub mod Packed
pub mod Rising

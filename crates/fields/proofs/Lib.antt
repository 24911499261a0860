pub mod Wrong
pub mod Known
pub mod Putting
pub mod Once

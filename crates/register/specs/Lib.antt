pub mod Layout
pub mod Reading
pub mod Image
pub mod Held

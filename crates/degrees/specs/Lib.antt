pub mod Gradable
pub mod Room
pub mod Notes
pub mod Headed
pub mod Given

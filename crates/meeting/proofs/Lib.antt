pub mod Children
pub mod Left
pub mod Settled

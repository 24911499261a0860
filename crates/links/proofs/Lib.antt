pub mod Masked
pub mod Rising
pub mod OneLink
pub mod Links
pub mod Rightly

pub mod Room
pub mod But
pub mod Folding
pub mod Noted
pub mod Reaching
pub mod Head
pub mod Going
pub mod Filled

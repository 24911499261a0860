pub mod Along
pub mod Walk
pub mod Alone
pub mod Entry

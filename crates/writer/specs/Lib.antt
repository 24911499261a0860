pub mod Ready
pub mod Promise

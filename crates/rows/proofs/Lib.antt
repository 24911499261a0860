pub mod At
pub mod Made
pub mod Rising
pub mod Going

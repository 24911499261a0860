pub mod Search
pub mod Table
pub mod Trail
pub mod Down

pub mod Cells
pub mod Charted
pub mod Sought

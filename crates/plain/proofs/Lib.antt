pub mod ReadPlain
pub mod ReadBoth
pub mod Known

pub mod Text
pub mod Lines
pub mod Entries
pub mod Printed

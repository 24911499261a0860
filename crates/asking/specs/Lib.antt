pub mod Answers
pub mod Refusing

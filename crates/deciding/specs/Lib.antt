pub mod Answers
pub mod BothRead
pub mod Refusing

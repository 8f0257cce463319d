pub mod Sinks
pub mod Shelves
pub mod Answers

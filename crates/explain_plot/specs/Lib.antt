pub mod Sizes
pub mod Example
pub mod Table
pub mod Along
pub mod Files
pub mod Calls
pub mod Read

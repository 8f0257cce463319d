pub mod Calls
pub mod Classes
pub mod Example
pub mod Found
pub mod Read
pub mod Twice

pub mod Json
pub mod Asks
pub mod Opened
pub mod Agreed
pub mod Read
pub mod Example

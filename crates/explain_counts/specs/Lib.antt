pub mod Parts
pub mod Lines
pub mod Counts
pub mod Hovers
pub mod Read
pub mod Example

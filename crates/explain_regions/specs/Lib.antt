pub mod Regions
pub mod Lines
pub mod Counter
pub mod Read
pub mod Example

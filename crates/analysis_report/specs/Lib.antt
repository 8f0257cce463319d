pub mod Lines
pub mod Floors
pub mod Told
pub mod Limits
pub mod Tuples
pub mod Comparison
pub mod Powers
pub mod Steps

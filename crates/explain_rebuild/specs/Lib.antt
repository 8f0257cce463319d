pub mod Reached
pub mod Sources
pub mod Rebuilt

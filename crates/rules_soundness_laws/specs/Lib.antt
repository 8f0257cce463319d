pub mod Enough
pub mod Bounds
pub mod Laws
pub mod Example

pub mod Algebra
pub mod Example
pub mod Laws
pub mod Steps

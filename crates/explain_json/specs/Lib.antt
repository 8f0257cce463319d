pub mod Terms
pub mod Example

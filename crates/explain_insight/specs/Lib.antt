pub mod Brief
pub mod Example
pub mod Fenced
pub mod Header
pub mod Hovers
pub mod Insight
pub mod Lenses
pub mod Read

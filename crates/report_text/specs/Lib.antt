pub mod Names
pub mod Report
pub mod Polynomial
pub mod Claims
pub mod RunBounds
pub mod Trial

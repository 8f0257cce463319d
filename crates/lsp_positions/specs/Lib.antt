pub mod Lines
pub mod Columns
pub mod Positions
pub mod Example

pub mod Degrees
pub mod Within

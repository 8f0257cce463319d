pub mod Wrapped
pub mod Steps

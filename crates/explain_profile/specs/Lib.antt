pub mod Runs
pub mod Reached
pub mod Walk
pub mod Rows
pub mod Read
pub mod Profile

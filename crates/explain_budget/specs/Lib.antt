pub mod Judging
pub mod Steps
pub mod Telling
pub mod Degrees
pub mod Written
pub mod Calls
pub mod Read

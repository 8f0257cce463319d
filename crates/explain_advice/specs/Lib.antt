pub mod Advice
pub mod Changes
pub mod GivenUp
pub mod Information

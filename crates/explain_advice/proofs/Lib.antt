mod Joining
pub mod Telling

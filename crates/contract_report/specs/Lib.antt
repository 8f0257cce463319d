pub mod Verdicts
pub mod Refused
pub mod Told
pub mod Steps

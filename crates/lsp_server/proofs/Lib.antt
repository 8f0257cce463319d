pub mod Places
pub mod Kept
pub mod Taken
pub mod Answered
mod Told
mod Computed

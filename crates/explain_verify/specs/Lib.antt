pub mod Told
pub mod Verified
pub mod Read

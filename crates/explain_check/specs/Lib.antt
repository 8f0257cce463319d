pub mod Checks
pub mod Contents
pub mod Stores

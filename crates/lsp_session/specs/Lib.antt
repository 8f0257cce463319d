pub mod Deeds
pub mod Sessions

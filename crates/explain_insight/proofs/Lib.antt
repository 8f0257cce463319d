mod Computed
mod Each
pub mod Places

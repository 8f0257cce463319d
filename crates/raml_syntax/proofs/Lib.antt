pub mod Grow
pub mod Keep
pub mod Places
pub mod FromLast
pub mod Cuts
pub mod SameType
mod Computed

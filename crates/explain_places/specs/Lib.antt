pub mod Places
pub mod Text
pub mod Example

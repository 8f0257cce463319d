pub mod Plain
pub mod Refusals
pub mod Tasks
pub mod Places
pub mod Certificates
pub mod DeclaredLines

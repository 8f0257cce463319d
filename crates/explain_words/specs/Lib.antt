pub mod Spelled
pub mod Commands
pub mod Asking
pub mod Example
pub mod Laws

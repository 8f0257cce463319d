pub mod Adding
pub mod Calls
mod Mending

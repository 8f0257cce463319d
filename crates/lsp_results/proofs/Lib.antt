pub mod Plain
pub mod Listed
pub mod Shown
mod Computed

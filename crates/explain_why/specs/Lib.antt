pub mod Outcome
pub mod Read
pub mod Shown
pub mod Bounds
pub mod Notes
pub mod Chosen
pub mod Why
pub mod Calls

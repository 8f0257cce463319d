pub mod Before
pub mod Uses
pub mod Emptied
pub mod Read
pub mod Reached
pub mod Paid
pub mod Example

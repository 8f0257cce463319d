pub mod Columns
pub mod Numbers
pub mod Spots
pub mod Read
pub mod Slots

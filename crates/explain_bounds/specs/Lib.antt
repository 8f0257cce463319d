pub mod Told
pub mod Lines
pub mod Objects
pub mod Read
pub mod Written
pub mod Example

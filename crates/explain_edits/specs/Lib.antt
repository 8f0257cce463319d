pub mod Edits
pub mod Read

pub mod Tokens
pub mod Table
pub mod Forms
pub mod Fronts
pub mod Steps
pub mod Read

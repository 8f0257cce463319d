pub mod Calls
pub mod Groups
pub mod Read
pub mod Sets
pub mod Table

pub mod Names
pub mod Insertions
pub mod Supply
pub mod Read

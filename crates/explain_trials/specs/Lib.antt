pub mod Trials
pub mod Read

pub mod Heads
pub mod Sentences
pub mod Changes
pub mod Read
pub mod Reasons

pub mod Kinds
pub mod Read
pub mod Answers
pub mod Example

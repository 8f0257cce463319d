pub mod Marks
pub mod Fields
pub mod Frames
pub mod Seen
pub mod Reader
pub mod Read
pub mod Example

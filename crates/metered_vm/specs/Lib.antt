pub mod Parts
pub mod Running
pub mod Moving
pub mod Stepping
pub mod Seen
pub mod Ending
pub mod Keeping

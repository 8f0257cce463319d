pub mod Answered
pub mod Limits
pub mod OneAnswer
pub mod Told
pub mod Counted

pub mod Choosing
pub mod Answers
pub mod Alone
pub mod Limits
pub mod Outcomes
pub mod Rules
pub mod Wholes

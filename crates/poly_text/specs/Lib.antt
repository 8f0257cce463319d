pub mod Lowest
pub mod Text

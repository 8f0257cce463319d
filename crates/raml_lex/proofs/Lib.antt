pub mod Runs
pub mod Words
pub mod Comments
pub mod Symbols
pub mod Values
pub mod OneAnswer
pub mod Cuts
pub mod Spans

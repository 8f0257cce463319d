mod Copies
pub mod CountsRounds
pub mod Kept

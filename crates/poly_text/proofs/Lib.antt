pub mod Divide
pub mod OneText
pub mod Ordered

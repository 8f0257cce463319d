pub mod Weighed
pub mod Carried
pub mod Contexts
pub mod Operands
pub mod Parts
pub mod Steps
pub mod Pays
pub mod Walk
pub mod Blocks
pub mod Bound
pub mod Source
pub mod Lines
mod Appends

mod Picking
mod Joining
mod Taking
mod ByPick
pub mod Cutting
mod Limiting
pub mod Chosen

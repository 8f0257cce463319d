pub mod Types
pub mod Texts
pub mod Added
pub mod Weights
pub mod Params

pub mod Coefficients
pub mod Products
pub mod Places
pub mod Duality
mod Rowwise
pub mod Proportions

pub mod Lowest
pub mod Values
pub mod Nought
pub mod Order
pub mod Text

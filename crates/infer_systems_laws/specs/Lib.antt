pub mod Tried
pub mod Analysed
pub mod Laws

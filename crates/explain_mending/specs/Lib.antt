pub mod Mended
pub mod Reached

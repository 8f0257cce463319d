pub mod Lines
pub mod Mended
pub mod Read
pub mod Laws

pub mod Headers
pub mod Inlined
pub mod Texts

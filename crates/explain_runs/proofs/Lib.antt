pub mod Running
pub mod Reading
pub mod Texts

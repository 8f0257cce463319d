pub mod Rules
pub mod Derives
pub mod Reading

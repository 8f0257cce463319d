pub mod Stepping
pub mod Refusing
pub mod Reading
pub mod Calling
pub mod Placing
pub mod Proved
pub mod Choosing
pub mod Running

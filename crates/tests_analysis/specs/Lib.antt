pub mod Scaled
pub mod NineLists

pub mod Sizes
pub mod Told
pub mod Calls
pub mod Draft
pub mod Read

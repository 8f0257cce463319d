pub mod Sizes
pub mod Counts
pub mod Read
pub mod Open
pub mod Shares
pub mod Laws
pub mod Example

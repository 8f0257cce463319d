pub mod Computed
pub mod Counting
pub mod Naming
pub mod Worth

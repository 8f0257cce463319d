pub mod Rows
mod Columns
pub mod Invariant
pub mod Pivoting
pub mod Opening
mod Bases
mod Ordered
mod Falling
mod Counting
pub mod Ending
pub mod Reading
pub mod Agreeing
pub mod Paths
mod Searching

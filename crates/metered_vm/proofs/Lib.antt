pub mod CellKinds
pub mod Lists
pub mod Acting
pub mod Arithmetic
pub mod Calling
pub mod Fetching
pub mod Going
pub mod Keeping

mod Lists
mod Orders
mod Runs
mod Bound
mod Alike
pub mod Keep

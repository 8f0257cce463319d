mod Small
mod Each
mod ThreeTicks
pub mod Appended
mod Beside
mod Computed
mod Systems
pub mod Linear
pub mod Times
mod Derived
pub mod Raised
pub mod Multiples
pub mod Lists

pub mod Differences
pub mod Signed
pub mod Dividing
pub mod Multiples
mod Quotients
mod Totals

pub mod Divisors
pub mod Sums

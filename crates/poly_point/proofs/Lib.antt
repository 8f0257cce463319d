mod Values
mod Sums
mod Raised
mod Arguments

mod Cancelling
mod Comparing
mod Quotients
mod Sharing
mod Signs
mod Sums
mod Short

pub mod CostSame
pub mod Kept
mod Paid
mod Cuts
mod Entries
pub mod Tables
mod Computed
mod Terms
mod Answered
mod Checked

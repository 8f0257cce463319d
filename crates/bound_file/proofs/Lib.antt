mod Cuts
mod Tupled
mod Stacks
mod Terms
mod Sums
mod Stepped
mod Words
mod Named
mod Stripped
mod LineRead
mod Placed
mod Counting
mod Bounds
mod Told
mod Answered
mod Computed
pub mod Few

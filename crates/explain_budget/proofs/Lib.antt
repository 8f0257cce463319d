mod Decided
mod Lined
mod Placed
mod Degrees
mod Calling
mod Claimed

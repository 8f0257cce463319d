mod Counted
mod Degrees
mod Found
mod Laid
mod Spaces
mod Walking
mod Unspelled

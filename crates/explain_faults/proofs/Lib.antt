mod Computed
mod Mending
mod Refused
mod Single

mod Computed
mod Ends
mod Meaning
mod Renamed
mod Stepping

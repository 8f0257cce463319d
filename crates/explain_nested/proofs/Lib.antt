mod Chosen
mod Meaning
mod Walking
mod Ordering
mod Computed
mod Naming

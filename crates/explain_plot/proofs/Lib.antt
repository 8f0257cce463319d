mod Calling
mod Computed
mod Fitting
mod Found
mod Held

mod Computed
mod Fitting
mod Found

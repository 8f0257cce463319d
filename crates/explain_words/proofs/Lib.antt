mod Fitting
mod Values
mod Numbers
mod Cuts
mod Computed
mod Ranges

mod Computed
mod Shown

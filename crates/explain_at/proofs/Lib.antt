mod Cuts
mod Numbers
mod Computed
mod Open
mod Reading

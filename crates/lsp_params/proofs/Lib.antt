mod Computed
mod Reading

pub mod Appended
mod Computed

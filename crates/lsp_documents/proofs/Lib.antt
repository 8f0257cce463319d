mod Computed
pub mod Changing

mod Computed
pub mod Starts
pub mod Units
pub mod Back
pub mod Tables

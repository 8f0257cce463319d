pub mod Measure
pub mod Told
pub mod Agree

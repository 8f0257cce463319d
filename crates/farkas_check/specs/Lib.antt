pub mod Totals
pub mod Checks
pub mod Sides
pub mod Faults

pub mod Example
pub mod Faults
pub mod Laws
pub mod Repairs
pub mod Told

pub mod Wholes
pub mod Denominators
pub mod Next
pub mod Laws
pub mod Reading

pub mod Raised
pub mod Other
pub mod Over
pub mod Leaving
pub mod Laws

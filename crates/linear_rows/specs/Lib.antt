pub mod Terms
pub mod Vectors
pub mod Systems
pub mod Laws

mod Tried
mod Systems
pub mod Certified
pub mod Proper
pub mod Generating
pub mod Limits
pub mod Ordered
pub mod FitRows
pub mod Below

pub mod Changes
pub mod Document
pub mod Example

pub mod Places
pub mod Tableaux
pub mod Refusals
pub mod Courses
pub mod Laws
pub mod Example

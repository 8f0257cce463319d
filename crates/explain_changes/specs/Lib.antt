pub mod Built
pub mod Scope
pub mod Sites
pub mod Edits
pub mod Same
pub mod Read
pub mod Laws
pub mod Example

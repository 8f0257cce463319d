pub mod Count
pub mod Example
pub mod Laws
pub mod Read
pub mod Rounds

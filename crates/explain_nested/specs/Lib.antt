pub mod Reading
pub mod Laws
pub mod Read
pub mod Text
pub mod Example

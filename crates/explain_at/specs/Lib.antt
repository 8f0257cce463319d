pub mod Words
pub mod Asked
pub mod Read
pub mod Text
pub mod Laws
pub mod Example

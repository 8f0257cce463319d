pub mod Example
pub mod Exchange
pub mod Exchanged
pub mod Laws
pub mod Read

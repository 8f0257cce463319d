pub mod Lists
mod Vectors
pub mod Found
mod RaisedRows
pub mod Raising
pub mod Running
pub mod Asked
mod Certifying
pub mod Single
pub mod Short
pub mod Clear
pub mod Lines
pub mod Beginning
pub mod Present

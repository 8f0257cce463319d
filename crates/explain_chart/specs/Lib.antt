pub mod Chart
pub mod Read

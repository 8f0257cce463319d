pub mod Compare
pub mod Example
pub mod Laws
pub mod Order
pub mod Powers
pub mod Steps
pub mod Text
pub mod Tests

pub mod Point
pub mod Walk

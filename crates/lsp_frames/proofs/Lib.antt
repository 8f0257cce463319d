mod Computed
pub mod Places
pub mod Numbers
pub mod Marks
pub mod Streams
pub mod Written
pub mod Heads
pub mod Readers
pub mod Shapes

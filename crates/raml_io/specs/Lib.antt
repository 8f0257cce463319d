pub mod Faults
pub mod Files
pub mod MemSink
pub mod MemStore
pub mod Written

pub mod Types
pub mod Read
pub mod Operand

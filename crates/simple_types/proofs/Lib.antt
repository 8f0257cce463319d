pub mod Forms
mod Names
pub mod Places
pub mod Placing
mod Counted
mod Tables
mod Standing
mod Steps
mod Agree
mod Signed
pub mod Typing

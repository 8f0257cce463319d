mod Behind
mod Same
mod Places
pub mod Analysing
mod Calling
mod Drafting

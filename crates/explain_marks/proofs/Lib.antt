mod Added
mod Below
mod Counted
mod Sized
mod Spelled

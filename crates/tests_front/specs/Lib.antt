pub mod Lexed
pub mod Parsed
pub mod Typing

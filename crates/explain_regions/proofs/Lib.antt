mod Computed
mod Joined
mod Lexed

mod Each
mod Reaching
